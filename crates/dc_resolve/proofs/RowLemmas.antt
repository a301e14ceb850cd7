-- Rows that ask nobody, part by part.
use Rattle.std.proofs.Common.{◌≡◌, ℕ, ◌≤◌, ◌<◌, Bool, true, false, List, [], length, refl, sym, ap, ◌∙◌, subst}
use Rattle.std.specs.Prelude.{if◌then◌else◌, ◌==◌}
use Rattle.std.proofs.lemmas.Bool.{le-leb, lt-leb}
use Rattle.dc_model.specs.Event.{second, Action}
use Rattle.dc_model.specs.Cache.{Cache}
use Rattle.dc_model.specs.Name.{Name}
use Rattle.dc_model.specs.Line.{axfr, aliases}
use Rattle.dc_model.specs.Message.{kind_axfr}
use Rattle.dc_model.specs.Puts.{Put, all_put}
use Rattle.dc_model.specs.Reply.{Reply, nxdomain, servfail, fits}
use Rattle.dc_machine.specs.Query as machine
use Rattle.dc_machine.specs.Query.{begun, is_lowest, renamed, with_alias}
use Rattle.dc_machine.specs.Turn.{Setting, State, Row, goes, ends, dropped, at_look, at_down, reply_of, reply_row, begin_row, servfail_row, nxdomain_row, alias_row}
use Rattle.dc_frames.specs.declared.query.Query.{Query}
use Rattle.dc_frames.specs.View.{query_of}
use Rattle.dc_desk.specs.View.{setting_at, at}
use Rattle.dc_desk.specs.Steps.{Follows, TookRow}
use Rattle.dc_desk.specs.declared.desk.Desk.{Desk}
use Rattle.dc_desk.specs.declared.moment.Moment.{Moment}
use Rattle.dc_desk.specs.declared.step.Step.{Step}

-- A row was taken, part by part.
pub row_as : {S O : Type 0} (acted : O → List Action → O → Type 0) (cache : S → Cache) (row : Setting → State → Row) (moment : Moment)
    (a : O) (q : Query) (d : Desk S) (b : O) (q' : Query) (d' : Desk S) (step : Step) (r : Row) →
    row (setting_at d moment) (at cache q d) ≡ r →
    acted a r.actions b → query_of q' ≡ r.query → cache d'.store ≡ all_put r.puts (second moment.time) (cache d.store) → d'.link ≡ d.link →
    setting_at d' moment ≡ setting_at d moment → d'.counts ≡ d.counts → Follows step d'.reply r.following →
    TookRow acted cache row moment a q d b q' d' step
row_as acted cache row moment a q d b q' d' step r e acts query store links setting counts next = record {
  acts = subst (λ (x : Row). acted a x.actions b) (sym e) acts;
  query = query ∙ sym (ap (λ (x : Row). x.query) e);
  store = store ∙ sym (ap (λ (x : Row). all_put x.puts (second moment.time) (cache d.store)) e);
  links = links;
  setting = setting;
  counts = counts;
  next = subst (λ (x : Row). Follows step d'.reply x.following) (sym e) next;
}

either_query : (b : Bool) (x y : Row) (q : machine.Query) → x.query ≡ q → y.query ≡ q → (if b then x else y).query ≡ q
either_query true x y q e f = e
either_query false x y q e f = f

either_actions : (b : Bool) (x y : Row) (as' : List Action) → x.actions ≡ as' → y.actions ≡ as' → (if b then x else y).actions ≡ as'
either_actions true x y as' e f = e
either_actions false x y as' e f = f

either_puts : (b : Bool) (x y : Row) (ps : List Put) → x.puts ≡ ps → y.puts ≡ ps → (if b then x else y).puts ≡ ps
either_puts true x y ps e f = e
either_puts false x y ps e f = f

-- A row that replies was taken.
pub reply_as : {S O : Type 0} (acted : O → List Action → O → Type 0) (cache : S → Cache) (row : Setting → State → Row) (moment : Moment)
    (a : O) (q : Query) (d : Desk S) (b : O) (q' : Query) (d' : Desk S) (step : Step) (r : Reply) (actions : List Action) (s : State) →
    row (setting_at d moment) (at cache q d) ≡ reply_row r actions s →
    acted a actions b → query_of q' ≡ s.query → cache d'.store ≡ cache d.store → d'.link ≡ d.link →
    setting_at d' moment ≡ setting_at d moment → d'.counts ≡ d.counts → Follows step d'.reply (reply_row r actions s).following →
    TookRow acted cache row moment a q d b q' d' step
unfolding reply_row all_put
reply_as acted cache row moment a q d b q' d' step r actions s e acts query store links setting counts next =
    row_as acted cache row moment a q d b q' d' step (reply_row r actions s) e
    (subst (λ x. acted a x b) (sym (either_actions (fits r) _ _ actions refl refl)) acts)
    (query ∙ sym (either_query (fits r) _ _ s.query refl refl))
    (store ∙ sym (ap (λ x. all_put x (second moment.time) (cache d.store)) (either_puts (fits r) _ _ [] refl refl)))
    links setting counts next

-- The rows, case by case.
pub begin_axfr : (s : State) → s.query.request.kind ≡ kind_axfr → begin_row s ≡ ends s.query [] (dropped axfr)
unfolding begin_row
begin_axfr s e = rw e refl

pub begin_other : (s : State) → (s.query.request.kind == kind_axfr) ≡ false → begin_row s ≡ goes (begun s.query) [] at_look
unfolding begin_row
begin_other s e = rw e refl

pub servfail_lowest : (s : State) → is_lowest s.query ≡ true → servfail_row s ≡ reply_row (servfail (reply_of s.query [])) [] s
unfolding servfail_row
servfail_lowest s e = rw e refl

pub servfail_above : (s : State) → is_lowest s.query ≡ false → servfail_row s ≡ goes s.query [] at_down
unfolding servfail_row
servfail_above s e = rw e refl

pub nxdomain_lowest : (s : State) → is_lowest s.query ≡ true → nxdomain_row s ≡ reply_row (nxdomain (reply_of s.query [])) [] s
unfolding nxdomain_row
nxdomain_lowest s e = rw e refl

pub nxdomain_above : (s : State) → is_lowest s.query ≡ false → nxdomain_row s ≡ goes s.query [] at_down
unfolding nxdomain_row
nxdomain_above s e = rw e refl

pub alias_full : (target : Name) (ttl : ℕ) (s : State) → is_lowest s.query ≡ true → 16 ≤ length s.query.aliases → alias_row target ttl s ≡ ends s.query [] (dropped aliases)
unfolding alias_row
alias_full target ttl s e h = rw (e, le-leb 16 (length s.query.aliases) h) refl

pub alias_lowest : (target : Name) (ttl : ℕ) (s : State) → is_lowest s.query ≡ true → length s.query.aliases < 16 → alias_row target ttl s ≡ goes (renamed (with_alias s.query ttl) target) [] at_look
unfolding alias_row
alias_lowest target ttl s e h = rw (e, lt-leb 16 (length s.query.aliases) h) refl

pub alias_above : (target : Name) (ttl : ℕ) (s : State) → is_lowest s.query ≡ false → alias_row target ttl s ≡ goes (renamed s.query target) [] at_look
unfolding alias_row
alias_above target ttl s e = rw e refl
