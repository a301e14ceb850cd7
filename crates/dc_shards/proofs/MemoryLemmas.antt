-- Bays, one more each time.
use Rattle.std.proofs.Common.{◌≡◌, ℕ, zero, suc, ◌+◌, false, List, [], ◌∷◌, ◌++◌, length, replicate, refl, sym, ◌∙◌, ap, subst, arith}
use Rattle.dc_shard.specs.declared.bay.Bay.{Bay}
use Rattle.dc_shard.specs.Bays.{states_of, outs_of, AreFree}
use Rattle.dc_shard.specs.Rounds.{AreBlank}
use Rattle.dc_shard.specs.Taped.{Taped, blank}

-- So many bays, each with a core like this one, none given an event, and with nothing on any tape.
pub record AreAlike {E : Type 0} (core : E) (count : ℕ) (bays : List (Bay E Taped)) : Type 0 where
  pub states : states_of (λ r. r) bays ≡ replicate count core
  pub free : AreFree bays
  pub blank_all : AreBlank (outs_of bays)

module _ {E : Type 0} where
  states_more : (bs : List (Bay E Taped)) (b : Bay E Taped) → states_of (λ r. r) (bs ++ b ∷ []) ≡ states_of (λ r. r) bs ++ b.core ∷ []
  states_more [] b = refl
  states_more (x ∷ xs) b = ap (λ l. x.core ∷ l) (states_more xs b)

  free_more : (bs : List (Bay E Taped)) (b : Bay E Taped) → AreFree bs → b.given ≡ false → AreFree (bs ++ b ∷ [])
  free_more [] b h e = (e, tt)
  free_more (x ∷ xs) b h e = (h.0, free_more xs b h.1 e)

  blank_more : (bs : List (Bay E Taped)) (b : Bay E Taped) → AreBlank (outs_of bs) → b.out ≡ blank → AreBlank (outs_of (bs ++ b ∷ []))
  blank_more [] b h e = (e, tt)
  blank_more (x ∷ xs) b h e = (h.0, blank_more xs b h.1 e)

  replicate_more : (n : ℕ) (x : E) → replicate n x ++ x ∷ [] ≡ replicate (n + 1) x
  replicate_more zero x = refl
  replicate_more (suc n) x =
      let number : suc (n + 1) ≡ suc n + 1 = omega arith in
      ap (λ l. x ∷ l) (replicate_more n x) ∙ ap (λ k. replicate k x) number

  pub alike_none : (core : E) → AreAlike core 0 []
  alike_none core = record { states = refl; free = tt; blank_all = tt }

  pub alike_more : (core : E) (count : ℕ) (old new : List (Bay E Taped)) (b : Bay E Taped) → AreAlike core count old → new ≡ old ++ b ∷ [] → b.core ≡ core → b.given ≡ false → b.out ≡ blank
      → AreAlike core (count + 1) new
  alike_more core count old new b h is like free empty = record {
    states = ap (λ l. states_of (λ r. r) l) is ∙ states_more old b ∙ (λ i. h.states i ++ like i ∷ []) ∙ replicate_more count core;
    free = subst AreFree (sym is) (free_more old b h.free free);
    blank_all = subst (λ l. AreBlank (outs_of l)) (sym is) (blank_more old b h.blank_all empty);
  }

  length_states : (bs : List (Bay E Taped)) → length (states_of (λ r. r) bs) ≡ length bs
  length_states [] = refl
  length_states (x ∷ xs) = ap suc (length_states xs)

  length_replicate : (n : ℕ) (x : E) → length (replicate n x) ≡ n
  length_replicate zero x = refl
  length_replicate (suc n) x = ap suc (length_replicate n x)

  -- There are as many.
  pub alike_length : (bs : List (Bay E Taped)) (core : E) (count : ℕ) → states_of (λ r. r) bs ≡ replicate count core → length bs ≡ count
  alike_length bs core count e = sym (length_states bs) ∙ ap length e ∙ length_replicate count core
