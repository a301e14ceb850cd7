use Rattle.std.proofs.Common.{◌≡◌, ℕ, List, sym, ap, ◌∙◌, subst, Result, Err, String, Vec}
use Rattle.std.proofs.lemmas.Result.{err_from_is_err_and}
use Rattle.std.specs.declared.alloc.Global.{Global}
use Rattle.dc_program.specs.Invoked.{IsTexts}
use Rattle.dc_program.specs.declared.invocation.Unread.{Unread}
use Rattle.dc_program.specs.declared.invocation.Unread.TheVariants.{Strange, NoMemory}
use Rattle.dc_program.proofs.read.words.Goals as goal

-- why nothing was read doesn't hang on the texts
same_cause : (why : Unread) (texts others : List (List ℕ)) → IsTexts (Err why) texts → IsTexts (Err why) others
same_cause Strange texts others h = h
same_cause NoMemory texts others h = h

exits : (r : Result (Vec (String Global) Global) Unread) (y why : Unread) (texts others : List (List ℕ)) → r ≡ Err y → y ≡ why → IsTexts (Err why) texts → IsTexts r others
exits r y why texts others e f h =
    let P : Result (Vec (String Global) Global) Unread → Type 0 = λ s. IsTexts s others in
    subst P (sym (e ∙ ap (λ w. Err w) f)) (same_cause why texts others h)

pub returns-in_err-words : goal.returns-in_err-words
returns-in_err-words g c = λ texts e.
    let p = err_from_is_err_and c.from_residual.result c.from_residual.ensures.1 in
    exits _ p.0 c.in_err-words.field-0.0 texts _ p.1 p.2 (c.in_err-words.ensures texts e)
