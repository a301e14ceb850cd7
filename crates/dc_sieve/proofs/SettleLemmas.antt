-- Settling, step by step.
use Rattle.std.proofs.Common.{◌≡◌, ℕ, suc, ◌+◌, ◌<◌, ◌≤◌, ◌^◌, ◌⊎◌, inl, inr, Bool, true, false, true≢false, cond, ltb, List, [], ◌∷◌, ◌++◌, length, refl, ap, sym, ◌∙◌, subst, arith, append_assoc, length-append, Option}
use Rattle.std.proofs.lemmas.List.{append-nil}
use Rattle.std.proofs.lemmas.Bool.Decides.{nat_tests}
use Rattle.std.specs.Io.KnownBytes.{IsAtEnd}
use Rattle.dc_event.specs.Told.{GainedFront}
use Rattle.dc_lookup.specs.Filter.{Slot, read, flushed}
use Rattle.dc_lookup.specs.Laws.{FrontWaits}
use Rattle.dc_filter.specs.Sifter.{Sifter}
use Rattle.dc_sieve.specs.Input.{Held, NextIsLong, ReadsLine, ReadsEnd}
use Rattle.dc_sieve.specs.Going.{Goes, IsWithin, IsQuiet, IsLater, WritesFront, ReadsLong, SettlesSo}
use Rattle.dc_sieve.specs.declared.settle.Settled.{Settled}
use Rattle.dc_sieve.specs.declared.settle.Settled.TheVariants.{Quiet, ReadFault, WriteFault, LongLine}
use Rattle.dc_sieve.proofs.GoingLemmas.{flushes, with_queue, flush_goes, nothing_goes, read_goes, goes_both, goes_then, quiet_full, quiet_end, end_goes, front_read, front_written, long_read}

module _ {S K : Type 0} (took : S → List ℕ → S → Type 0) (left : S → Option (List ℕ)) (gained : K → List ℕ → K → Type 0) (sfaults : S → ℕ) (kfaults : K → ℕ)
    (took_both : (a b c : S) (xs ys : List ℕ) → took a xs b → took b ys c → took a (xs ++ ys) c)
    (gained_both : (a b c : K) (xs ys : List ℕ) → gained a xs b → gained b ys c → gained a (xs ++ ys) c)
    (s : Sifter) (h : Held) (source : S) (sink : K) where
  pub record SoSettled (t : Sifter) (j : Held) (now : S) (out : K) : Type 0 where
    pub more : List ℕ
    pub text : List ℕ
    pub past : List (List ℕ)
    pub taken : took source more now
    pub told : gained sink text out
    pub goes : Goes s h (h.rest ++ more) t j text past
    pub later : IsLater h more j
    pub within : IsWithin t
    pub few : j.count ≤ 2 ^ 60
    pub end : j.ended ≡ true → (j.rest ≡ []) × IsAtEnd (left now)
    pub read_well : sfaults now ≡ sfaults source
    pub put_well : kfaults out ≡ kfaults sink

  pub settling_begins : took source [] source → gained sink [] sink → IsWithin s → h.count ≤ 2 ^ 60 → (h.ended ≡ true → (h.rest ≡ []) × IsAtEnd (left source)) → SoSettled s h source sink
  settling_begins none nothing within few end = record {
    more = [];
    text = [];
    past = [];
    taken = none;
    told = nothing;
    goes = subst (λ (b : List ℕ). Goes s h b s h [] []) (sym (append-nil h.rest)) (nothing_goes s h);
    later = λ e. (refl, e);
    within = within;
    few = few;
    end = end;
    read_well = refl;
    put_well = refl;
  }

  -- What is done was written.
  pub flush_step : (t : Sifter) (j : Held) (now : S) (out next : K) (u : Sifter) → SoSettled t j now out → gained out (flushed t.queue).text next → u ≡ with_queue t (flushed t.queue).queue → kfaults next ≡ kfaults out
      → SoSettled u j now next
  flush_step t j now out next u f told is well =
      let fewer = (flushes t.queue).fewer in
      subst (λ (x : Sifter). SoSettled x j now next) (sym is) (record {
        more = f.more;
        text = f.text ++ (flushed t.queue).text;
        past = f.past ++ [];
        taken = f.taken;
        told = gained_both sink out next f.text (flushed t.queue).text f.told told;
        goes = goes_then s h (h.rest ++ f.more) t j f.text f.past (with_queue t (flushed t.queue).queue) j (flushed t.queue).text [] (λ e. e) f.goes (flush_goes t j);
        later = f.later;
        within = omega (arith, fewer, f.within);
        few = f.few;
        end = f.end;
        read_well = f.read_well;
        put_well = well ∙ f.put_well;
      })

  pub front_waits : (t u : Sifter) → u ≡ with_queue t (flushed t.queue).queue → FrontWaits u.queue
  front_waits t u is = subst (λ (x : Sifter). FrontWaits x.queue) (sym is) (flushes t.queue).front

  -- A line was read.
  pub read_step : (t : Sifter) (j : Held) (now next : S) (out : K) (m : List ℕ) (k : Held) (u : Sifter) → SoSettled t j now out → FrontWaits t.queue → length t.queue < t.room → took now m next → sfaults next ≡ sfaults now
      → ReadsLine j (j.rest ++ m) k (left next) → k.count ≤ 2 ^ 60 → u ≡ with_queue t (t.queue ++ (read k.line ∷ [])) → SoSettled u k next out
  read_step t j now next out m k u f front room taken well r few is =
      let longer = length-append t.queue (read k.line ∷ []) in
      subst (λ (x : Sifter). SoSettled x k next out) (sym is) (record {
        more = f.more ++ m;
        text = f.text ++ [];
        past = f.past ++ (k.line ∷ []);
        taken = took_both source now next f.more m f.taken taken;
        told = subst (λ (x : List ℕ). gained sink x out) (sym (append-nil f.text)) f.told;
        goes = subst (λ (b : List ℕ). Goes s h b (with_queue t (t.queue ++ (read k.line ∷ []))) k (f.text ++ []) (f.past ++ (k.line ∷ []))) (append_assoc h.rest f.more m)
            (goes_both s h (h.rest ++ f.more) t j f.text f.past m (with_queue t (t.queue ++ (read k.line ∷ []))) k [] (k.line ∷ []) (λ e. absurd (true≢false (sym e ∙ r.going))) f.goes (read_goes t j (j.rest ++ m) k (left next) front room r));
        later = λ e. absurd (true≢false (sym (f.later e).1 ∙ r.going));
        within = omega (arith, longer, room);
        few = few;
        end = r.end;
        read_well = well ∙ f.read_well;
        put_well = f.put_well;
      })

  abbrev pub Ends : Settled → Sifter → Held → S → K → Type 0
  Ends answer t j now out =
      (more text : List ℕ) × took source more now × gained sink text out × IsLater h more j × SettlesSo answer s h (h.rest ++ more) t j text

  full_by : (b : Bool) (n m : ℕ) → b ≡ ltb n m → b ≡ false → m ≤ n
  full_by b n m h e = grind (arith, nat_tests)

  pub room_by : (b : Bool) (n m : ℕ) → b ≡ ltb n m → b ≡ true → n < m
  room_by b n m h e = grind (arith, nat_tests)

  pub settled_full : (t : Sifter) (j : Held) (now : S) (out : K) (b : Bool) → SoSettled t j now out → FrontWaits t.queue → b ≡ ltb (length t.queue) t.room → b ≡ false → Ends Quiet t j now out
  settled_full t j now out b f front is none =
      let full = full_by b (length t.queue) t.room is none in
      (f.more, f.text, f.taken, f.told, f.later, ((f.past, f.goes), f.within, quiet_full t j front f.within full, inr full, λ e. (f.end e).0))

  pub settled_end : (t : Sifter) (j : Held) (now next : S) (out : K) (m : List ℕ) (k : Held) → SoSettled t j now out → FrontWaits t.queue → took now m next → ReadsEnd j (j.rest ++ m) k (left next) → Ends Quiet t k next out
  settled_end t j now next out m k f front taken r = (
    f.more ++ m,
    f.text ++ [],
    took_both source now next f.more m f.taken taken,
    subst (λ (x : List ℕ). gained sink x out) (sym (append-nil f.text)) f.told,
    (λ e. (ap (λ (x : List ℕ). x ++ m) (f.later e).0 ∙ no_more j.rest m r.none, r.ended)),
    (
      (
        f.past ++ [],
        subst (λ (b : List ℕ). Goes s h b t k (f.text ++ []) (f.past ++ [])) (append_assoc h.rest f.more m)
            (goes_both s h (h.rest ++ f.more) t j f.text f.past m t k [] [] (λ e. (no_more j.rest m r.none, r.ended)) f.goes (end_goes t j (j.rest ++ m) k r.none r.rest r.count)),
      ),
      f.within,
      quiet_end t k front f.within r.ended r.rest,
      inl r.ended,
      (λ e. r.rest),
    ),
  )
    where
      no_more : (xs ys : List ℕ) → xs ++ ys ≡ [] → ys ≡ []
      no_more [] ys e = e
      no_more (x ∷ xs) ys e = cc

  pub settled_unread : (t : Sifter) (j : Held) (now next : S) (out : K) (m : List ℕ) (k : Held) → SoSettled t j now out → took now m next → j.ended ≡ false → Ends ReadFault t k next out
  settled_unread t j now next out m k f taken going = (
    f.more ++ m,
    f.text,
    took_both source now next f.more m f.taken taken,
    f.told,
    (λ e. absurd (true≢false (sym (f.later e).1 ∙ going))),
    subst (λ (b : List ℕ). WritesFront s b f.text k.ended) (append_assoc h.rest f.more m) (front_read s h (h.rest ++ f.more) t j f.text f.past m k.ended f.goes going),
  )

  pub settled_unwritten : (t : Sifter) (j : Held) (now : S) (out next : K) (u : Sifter) → SoSettled t j now out → GainedFront gained out (flushed t.queue).text next → Ends WriteFault u j now next
  settled_unwritten t j now out next u f g = (
    f.more,
    f.text ++ g.0,
    f.taken,
    gained_both sink out next f.text g.0 f.told g.2,
    f.later,
    front_written s h (h.rest ++ f.more) t j f.text f.past g.0 f.goes g.1,
  )

  pub settled_long : (t : Sifter) (j : Held) (now next : S) (out : K) (m : List ℕ) (k : Held) (number : ℕ) → SoSettled t j now out → FrontWaits t.queue → length t.queue < t.room → took now m next → j.ended ≡ false
      → number ≡ j.count + 1 → ((tail : List ℕ) → NextIsLong j.count ((j.rest ++ m) ++ tail)) → Ends (LongLine number) t k next out
  settled_long t j now next out m k number f front room taken going is long = (
    f.more ++ m,
    f.text,
    took_both source now next f.more m f.taken taken,
    f.told,
    (λ e. absurd (true≢false (sym (f.later e).1 ∙ going))),
    (
      subst (λ (b : List ℕ). WritesFront s b f.text false) (append_assoc h.rest f.more m) (front_read s h (h.rest ++ f.more) t j f.text f.past m false f.goes going),
      (λ tail. subst (λ (b : List ℕ). ReadsLong s h.count b number tail) (append_assoc h.rest f.more m) (long_read s h (h.rest ++ f.more) t j f.text f.past m number f.goes going front room f.few is long tail)),
    ),
  )
