-- Words one after another.
use Rattle.std.proofs.Common.{◌≡◌, ◌≢◌, ℕ, suc, ◌+◌, ◌≤◌, ◌<◌, List, [], ◌∷◌, ◌++◌, length, map, drop, get_or, refl, ap, sym, ◌∙◌, arith, append_assoc, Option, Some, None}
use Rattle.std.specs.Prelude.{option_map, option_and_then, string_bytes, String}
use Rattle.std.specs.declared.alloc.Global.{Global}
use Rattle.std.proofs.Math.Seq.{drop-cons}
use Rattle.std.proofs.lemmas.List.{append-nil, map-append, drop_all}
use Rattle.dc_lookup.specs.Words.{Job, each, some_each}
use Rattle.dc_stub.specs.declared.look.Job.{Job as CodeJob}
use Rattle.dc_stub.specs.Look.{job_of}
use Rattle.dc_stub.specs.Begun.{bytes_of}

nothing : (o : Option (List Job)) → o ≡ option_map (λ js. [] ++ js) o
nothing None = refl
nothing (Some js) = refl

behind_one : (so : List Job) (j : Job) (o : Option (List Job)) → option_map (λ js. so ++ js) (option_map (λ js. j ∷ js) o) ≡ option_map (λ js. (so ++ (j ∷ [])) ++ js) o
behind_one so j None = refl
behind_one so j (Some js) = ap Some (sym (append_assoc so (j ∷ []) js))

module _ (said : List ℕ → Option Job) where
  -- What was made of the words so far, and the words that are left.
  abbrev pub IsSoFar : List (List ℕ) → List Job → List (List ℕ) → Type 0
  IsSoFar all so rest = each said all ≡ option_map (λ js. so ++ js) (each said rest)

  pub so_far_first : (all : List (List ℕ)) → IsSoFar all [] all
  so_far_first all = nothing (each said all)

  abbrev first_then : Option Job → List (List ℕ) → Option (List Job)
  first_then o ws = option_and_then (λ j. option_map (λ js. j ∷ js) (each said ws)) o

  pub so_far_more : (all : List (List ℕ)) (so : List Job) (rest ws : List (List ℕ)) (w : List ℕ) (j : Job) → IsSoFar all so rest → rest ≡ w ∷ ws → said w ≡ Some j → IsSoFar all (so ++ (j ∷ [])) ws
  so_far_more all so rest ws w j s e h =
      s ∙ ap (λ (l : List (List ℕ)). option_map (λ js. so ++ js) (each said l)) e
      ∙ ap (λ (o : Option Job). option_map (λ js. so ++ js) (first_then o ws)) h ∙ behind_one so j (each said ws)

  pub so_far_none : (all : List (List ℕ)) (so : List Job) (rest ws : List (List ℕ)) (w : List ℕ) → IsSoFar all so rest → rest ≡ w ∷ ws → said w ≡ None → each said all ≡ None
  so_far_none all so rest ws w s e h =
      s ∙ ap (λ (l : List (List ℕ)). option_map (λ js. so ++ js) (each said l)) e ∙ ap (λ (o : Option Job). option_map (λ js. so ++ js) (first_then o ws)) h

  pub so_far_done : (all : List (List ℕ)) (so : List Job) (rest : List (List ℕ)) → IsSoFar all so rest → rest ≡ [] → each said all ≡ Some so
  so_far_done all so rest s e = s ∙ ap (λ (l : List (List ℕ)). option_map (λ js. so ++ js) (each said l)) e ∙ ap Some (append-nil so)

  pub some_are : (words : List (String Global)) → 1 ≤ length words → some_each said (bytes_of words) ≡ each said (bytes_of words)
  some_are [] h = absurd (omega (arith, h))
  some_are (w ∷ ws) h = refl

  pub some_long : (words : List (String Global)) → some_each said (bytes_of words) ≢ None → 1 ≤ length words
  some_long [] h = absurd (h refl)
  some_long (w ∷ ws) h = omega arith

  pub no_jobs : (words : List (String Global)) → length words ≡ 0 → some_each said (bytes_of words) ≡ None
  no_jobs [] e = refl
  no_jobs (w ∷ ws) e = absurd (omega (arith, e))

pub some_not : (o : Option (List Job)) (so : List Job) → o ≡ Some so → o ≢ None
some_not o so e h = cc

pub rest_is : (words : List (String Global)) (at : ℕ) (d : String Global) → at < length words → d ≡ get_or words at d → bytes_of (drop at words) ≡ string_bytes d ∷ bytes_of (drop (at + 1) words)
rest_is words at d within one =
    let next : suc at ≡ at + 1 = omega arith in
    ap (λ (l : List (String Global)). bytes_of l) (drop-cons words at d within)
    ∙ ap (λ (x : String Global). string_bytes x ∷ bytes_of (drop (suc at) words)) (sym one)
    ∙ ap (λ (n : ℕ). string_bytes d ∷ bytes_of (drop n words)) next

pub rest_none : (words : List (String Global)) (at : ℕ) → length words ≤ at → bytes_of (drop at words) ≡ []
rest_none words at h = ap (λ (l : List (String Global)). bytes_of l) (drop_all at words h)

pub mapped : (js : List CodeJob) (j : CodeJob) (new : List CodeJob) → new ≡ js ++ (j ∷ []) → map job_of new ≡ map job_of js ++ (job_of j ∷ [])
mapped js j new e = ap (λ (l : List CodeJob). map job_of l) e ∙ map-append job_of js (j ∷ [])
