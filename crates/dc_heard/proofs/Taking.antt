-- A row behind puts and actions that came before it.
use Rattle.std.proofs.Common.{◌≡◌, ℕ, List, ◌++◌, sym, ◌∙◌, ap, subst}
use Rattle.std.proofs.lemmas.List.{append-nil}
use Rattle.dc_model.specs.Event.{Action, second}
use Rattle.dc_model.specs.Cache.{Cache}
use Rattle.dc_model.specs.Puts.{Put, all_put}
use Rattle.dc_model.proofs.PutLemmas.{puts_on}
use Rattle.dc_machine.specs.Turn.{Setting, State, Row, first}
use Rattle.dc_frames.specs.View.{query_of}
use Rattle.dc_frames.specs.declared.query.Query.{Query}
use Rattle.dc_desk.specs.View.{setting_at, at}
use Rattle.dc_desk.specs.declared.desk.Desk.{Desk}
use Rattle.dc_desk.specs.declared.moment.Moment.{Moment}
use Rattle.dc_desk.specs.declared.step.Step.{Step}
use Rattle.dc_desk.specs.Steps.{Follows, TookRow}
use Rattle.dc_heard.specs.Quiet.{Leads}

-- a row that was taken is also this one
pub took_as : {S O : Type 0} (acted : O → List Action → O → Type 0) (cache : S → Cache) (row row' : Setting → State → Row) (moment : Moment)
    (a c : O) (q q1 q2 : Query) (d d1 d2 : Desk S) (step : Step)
    → row (setting_at d moment) (at cache q d) ≡ row' (setting_at d1 moment) (at cache q1 d1)
    → cache d1.store ≡ cache d.store → d1.link ≡ d.link → setting_at d1 moment ≡ setting_at d moment → d1.counts ≡ d.counts
    → TookRow acted cache row' moment a q1 d1 c q2 d2 step → TookRow acted cache row moment a q d c q2 d2 step
took_as acted cache row row' moment a c q q1 q2 d d1 d2 step e store links setting counts t = record {
  acts = subst (λ (r : Row). acted a r.actions c) (sym e) t.acts;
  query = t.query ∙ ap (λ (r : Row). r.query) (sym e);
  store = t.store ∙ ap (λ (r : Row). all_put r.puts (second moment.time) (cache d1.store)) (sym e) ∙ ap (λ x. all_put (row (setting_at d moment) (at cache q d)).puts (second moment.time) x) store;
  links = t.links ∙ links;
  setting = t.setting ∙ setting;
  counts = t.counts ∙ counts;
  next = subst (λ (r : Row). Follows step d2.reply r.following) (sym e) t.next;
}

-- a row that was taken behind puts and actions is this one
pub took_behind : {S O : Type 0} (acted : O → List Action → O → Type 0) (cache : S → Cache) (row row' : Setting → State → Row) (moment : Moment)
    (a b c : O) (q q2 : Query) (d d1 d2 : Desk S) (step : Step) (puts : List Put) (actions : List Action)
    → ((x y z : O) (xs ys : List Action) → acted x xs y → acted y ys z → acted x (xs ++ ys) z)
    → row (setting_at d moment) (at cache q d)
    ≡ first puts actions (row' (setting_at d moment) (record { query = query_of q; cache = all_put puts (second moment.time) (cache d.store); links = d.link }))
    → acted a actions b → cache d1.store ≡ all_put puts (second moment.time) (cache d.store) → d1 ≡ record d { store = d1.store }
    → TookRow acted cache row' moment b q d1 c q2 d2 step → TookRow acted cache row moment a q d c q2 d2 step
took_behind acted cache row row' moment a b c q q2 d d1 d2 step puts actions both e acts store rest t =
    let links : d1.link ≡ d.link = ap (λ x. x.link) rest in
    let setting : setting_at d1 moment ≡ setting_at d moment = ap (λ x. setting_at x moment) rest in
    let r : Row = row' (setting_at d1 moment) (at cache q d1) in
    let own : row (setting_at d moment) (at cache q d) ≡ first puts actions r
    = e ∙ ap (λ (x : Cache). first puts actions (row' (setting_at d moment) (record { query = query_of q; cache = x; links = d.link }))) (sym store)
    ∙ ap (λ (n : ℕ). first puts actions (row' (setting_at d moment) (record { query = query_of q; cache = cache d1.store; links = n }))) (sym links)
    ∙ ap (λ (x : Setting). first puts actions (row' x (at cache q d1))) (sym setting) in
    record {
      acts = subst (λ (x : Row). acted a x.actions c) (sym own) (both a b c actions r.actions acts t.acts);
      query = t.query ∙ ap (λ (x : Row). x.query) (sym own);
      store = t.store ∙ ap (λ x. all_put r.puts (second moment.time) x) store ∙ sym (puts_on puts r.puts (second moment.time) (cache d.store))
          ∙ ap (λ (x : Row). all_put x.puts (second moment.time) (cache d.store)) (sym own);
      links = t.links ∙ links;
      setting = t.setting ∙ setting;
      counts = t.counts ∙ ap (λ x. x.counts) rest;
      next = subst (λ (x : Row). Follows step d2.reply x.following) (sym own) t.next;
    }

-- so is one that does nothing to the outside and puts nothing
pub took_leads : {S O : Type 0} (acted : O → List Action → O → Type 0) (cache : S → Cache) (row : Setting → State → Row) (r : Row) (moment : Moment)
    (a c : O) (q q2 : Query) (d d2 : Desk S) (step : Step) (puts : List Put) (actions : List Action)
    → row (setting_at d moment) (at cache q d) ≡ first puts actions r
    → acted a actions c → cache d2.store ≡ all_put puts (second moment.time) (cache d.store) → d2.link ≡ d.link → setting_at d2 moment ≡ setting_at d moment → d2.counts ≡ d.counts
    → Leads r (query_of q2) d2.reply step → TookRow acted cache row moment a q d c q2 d2 step
took_leads acted cache row r moment a c q q2 d d2 step puts actions e acts store links setting counts l =
    let none : puts ++ r.puts ≡ puts = ap (λ x. puts ++ x) l.puts ∙ append-nil puts in
    let still : actions ++ r.actions ≡ actions = ap (λ x. actions ++ x) l.acts ∙ append-nil actions in
    record {
      acts = subst (λ (x : Row). acted a x.actions c) (sym e) (subst (λ xs. acted a xs c) (sym still) acts);
      query = l.query ∙ ap (λ (x : Row). x.query) (sym e);
      store = store ∙ ap (λ x. all_put x (second moment.time) (cache d.store)) (sym none) ∙ ap (λ (x : Row). all_put x.puts (second moment.time) (cache d.store)) (sym e);
      links = links;
      setting = setting;
      counts = counts;
      next = subst (λ (x : Row). Follows step d2.reply x.following) (sym e) l.next;
    }
