-- How a transmission stands.
use Rattle.std.proofs.Common.{◌≡◌, ℕ, option_map, Option, Some, None, IsSome, true≢false, refl, sym, ap, subst}
use Rattle.dc_model.specs.Event.{Event}
use Rattle.dc_model.specs.Transmission.{Attempt, Occasion, Progress, waiting, packet, failed, no_port, after_event}
use Rattle.dc_transmit.specs.Attempts.{attempt_of, accepted_of, progress_of}
use Rattle.dc_transmit.specs.Standing.{Standing, standing_at, answer_of, closed, followed, stopped}
use Rattle.dc_transmit.specs.View.{standing_of}
use Rattle.dc_transmit.specs.declared.attempt.Attempt.{Attempt as CodeAttempt}
use Rattle.dc_transmit.specs.declared.progress.Progress.{Progress as CodeProgress}
use Rattle.dc_transmit.specs.declared.progress.Progress.TheVariants.{Waiting, Packet, Failed, NoPort}

pub asking_by : (answer : Option CodeProgress) (a : CodeAttempt) → IsSome (standing_of answer a).attempt → (standing_of answer a).attempt ≡ Some (attempt_of a)
asking_by None a h = absurd (true≢false (sym h))
asking_by (Some Waiting) a h = refl
asking_by (Some Packet) a h = absurd (true≢false (sym h))
asking_by (Some Failed) a h = absurd (true≢false (sym h))
asking_by (Some NoPort) a h = absurd (true≢false (sym h))

pub asking : (answer : Option CodeProgress) (a : CodeAttempt) (s : Standing) → standing_of answer a ≡ s → IsSome s.attempt → s.attempt ≡ Some (attempt_of a)
asking answer a s e h = subst (λ x. IsSome x.attempt → x.attempt ≡ Some (attempt_of a)) e (asking_by answer a) h

pub heard_by : (answer : Option CodeProgress) (a : CodeAttempt) → IsSome (standing_of answer a).accepted → (standing_of answer a).accepted ≡ Some (accepted_of a)
heard_by None a h = absurd (true≢false (sym h))
heard_by (Some Waiting) a h = absurd (true≢false (sym h))
heard_by (Some Packet) a h = refl
heard_by (Some Failed) a h = absurd (true≢false (sym h))
heard_by (Some NoPort) a h = absurd (true≢false (sym h))

pub heard : (answer : Option CodeProgress) (a : CodeAttempt) (s : Standing) → standing_of answer a ≡ s → IsSome s.accepted → s.accepted ≡ Some (accepted_of a)
heard answer a s e h = subst (λ x. IsSome x.accepted → x.accepted ≡ Some (accepted_of a)) e (heard_by answer a) h

pub answer_is : (answer : CodeProgress) (a : CodeAttempt) → answer ≡ answer_of (progress_of answer a)
answer_is Waiting a = refl
answer_is Packet a = refl
answer_is Failed a = refl
answer_is NoPort a = refl

pub followed_is : (attempt : Option Attempt) (a : Attempt) (e : Event) (o : Occasion) → attempt ≡ Some a → followed attempt e o ≡ after_event e a o
unfolding followed
followed_is attempt a e o h = ap (λ x. followed x e o) h

pub stopped_is : (attempt : Option Attempt) → closed (option_map (λ a. a.link) attempt) ≡ stopped attempt
unfolding stopped
stopped_is None = refl
stopped_is (Some a) = refl

-- Where there is a link, an attempt is made.
pub linked_asking : (attempt : Option Attempt) (link : Option ℕ) → link ≡ option_map (λ a. a.link) attempt → IsSome link → IsSome attempt
linked_asking None link e h = subst (λ x. IsSome x) e h
linked_asking (Some a) link e h = refl

-- What the answers Waiting and Packet tell of how it stands.
pub waiting_asking : (p : Progress) → Waiting ≡ answer_of p → IsSome (standing_at p).attempt
waiting_asking (waiting a) e = refl
waiting_asking (packet p) e = cc
waiting_asking failed e = cc
waiting_asking no_port e = cc

pub packet_heard : (p : Progress) → Packet ≡ answer_of p → IsSome (standing_at p).accepted
packet_heard (waiting a) e = cc
packet_heard (packet p) e = refl
packet_heard failed e = cc
packet_heard no_port e = cc
