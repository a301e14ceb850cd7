-- Rows that were taken, by what they are equal to.
use Rattle.std.proofs.Common.{◌≡◌, List, [], true, false, Bool, cond, refl, ap, sym, ◌∙◌, subst}
use Rattle.dc_model.specs.Event.{Action, second}
use Rattle.dc_model.specs.Reply.{Reply, fits}
use Rattle.dc_model.specs.Cache.{Cache}
use Rattle.dc_model.specs.Puts.{all_put}
use Rattle.dc_reply.specs.Draft.{Draft, draft_of}
use Rattle.dc_machine.specs.Query as machine
use Rattle.dc_machine.specs.Turn.{Setting, State, Row, goes, ends, dropped, reply_row}
use Rattle.dc_frames.specs.View.{query_of}
use Rattle.dc_frames.specs.declared.query.Query.{Query}
use Rattle.dc_answer.specs.Replies.{Replies}
use Rattle.dc_desk.specs.View.{setting_at, at}
use Rattle.dc_desk.specs.Steps.{TookRow, Follows, point_of, cause_of}
use Rattle.dc_desk.specs.declared.desk.Desk.{Desk}
use Rattle.dc_desk.specs.declared.moment.Moment.{Moment}
use Rattle.dc_desk.specs.declared.outcome.Cause.{Cause}
use Rattle.dc_desk.specs.declared.outcome.Outcome.TheVariants.{Dropped}
use Rattle.dc_desk.specs.declared.step.Point.{Point}
use Rattle.dc_desk.specs.declared.step.Step.{Step}
use Rattle.dc_desk.specs.declared.step.Step.TheVariants.{Go, End}

-- A row that is known by an equation.
pub took_as : {S O : Type 0} {acted : O → List Action → O → Type 0} {cache : S → Cache} {row row' : Setting → State → Row} {moment : Moment}
    {before after : O} {q q' q'' : Query} {d d' : Desk S} {step : Step} →
    row (setting_at d moment) (at cache q d) ≡ row' (setting_at d moment) (at cache q' d) →
    TookRow acted cache row' moment before q' d after q'' d' step → TookRow acted cache row moment before q d after q'' d' step
took_as {acted = acted} {cache = cache} {moment = moment} {before = before} {after = after} {d = d} {d' = d'} {step = step} e t = record {
  acts = subst (λ (x : Row). acted before x.actions after) (sym e) t.acts;
  query = t.query ∙ ap (λ (x : Row). x.query) (sym e);
  store = t.store ∙ ap (λ (x : Row). all_put x.puts (second moment.time) (cache d.store)) (sym e);
  links = t.links;
  setting = t.setting;
  counts = t.counts;
  next = subst (λ (x : Row). Follows step d'.reply x.following) (sym e) t.next;
}

-- A row that goes on at a point, and leaves the desk as it is.
pub took_goes : {S O : Type 0} {acted : O → List Action → O → Type 0} {cache : S → Cache} {row : Setting → State → Row} {moment : Moment}
    {before after : O} {q q' : Query} {d : Desk S} {p : Point} {actions : List Action} →
    row (setting_at d moment) (at cache q d) ≡ goes (query_of q') actions (point_of p) →
    acted before actions after → TookRow acted cache row moment before q d after q' d (Go p)
unfolding all_put
took_goes {acted = acted} {cache = cache} {moment = moment} {before = before} {after = after} {d = d} {p = p} e a = record {
  acts = subst (λ (x : Row). acted before x.actions after) (sym e) a;
  query = ap (λ (x : Row). x.query) (sym e);
  store = ap (λ (x : Row). all_put x.puts (second moment.time) (cache d.store)) (sym e);
  links = refl;
  setting = refl;
  counts = refl;
  next = ap (λ (x : Row). x.following) e;
}

-- A row that gives the query up, and leaves the desk as it is.
pub took_ends : {S O : Type 0} {acted : O → List Action → O → Type 0} {cache : S → Cache} {row : Setting → State → Row} {moment : Moment}
    {before after : O} {q q' : Query} {d : Desk S} {c : Cause} {actions : List Action} →
    row (setting_at d moment) (at cache q d) ≡ ends (query_of q') actions (dropped (cause_of c)) →
    acted before actions after → TookRow acted cache row moment before q d after q' d (End (Dropped c))
unfolding all_put
took_ends {acted = acted} {cache = cache} {moment = moment} {before = before} {after = after} {d = d} e a = record {
  acts = subst (λ (x : Row). acted before x.actions after) (sym e) a;
  query = ap (λ (x : Row). x.query) (sym e);
  store = ap (λ (x : Row). all_put x.puts (second moment.time) (cache d.store)) (sym e);
  links = refl;
  setting = refl;
  counts = refl;
  next = ap (λ (x : Row). x.following) e;
}

-- What a row of a reply leaves alone.
record Leaves (r : Row) (q : machine.Query) (done : List Action) : Type 0 where
  pub query : r.query ≡ q
  pub puts : r.puts ≡ []
  pub actions : r.actions ≡ done

leaves_by : (b : Bool) (q : machine.Query) (actions : List Action) (r r' : Row) → Leaves r q actions → Leaves r' q actions → Leaves (cond b r r') q actions
leaves_by true q actions r r' k k' = k
leaves_by false q actions r r' k k' = k'

reply-leaves : (r : Reply) (actions : List Action) (s : State) → Leaves (reply_row r actions s) s.query actions
unfolding reply_row
reply-leaves r actions s = leaves_by (fits r) s.query actions _ _ (record { query = refl; puts = refl; actions = refl }) (record { query = refl; puts = refl; actions = refl })

-- A row that replies, with the reply that was made.
pub took_reply : {S O : Type 0} {acted : O → List Action → O → Type 0} {cache : S → Cache} {row : Setting → State → Row} {moment : Moment}
    {before after : O} {q : Query} {d d' : Desk S} {step : Step} {made : Bool} (r : Reply) (actions : List Action) →
    row (setting_at d moment) (at cache q d) ≡ reply_row r actions (at cache q d) →
    acted before actions after → Replies made d'.reply r →
    ((x : Draft) (y : Reply) (as' : List Action) (s : State) → made ≡ fits y → (made ≡ true → x ≡ draft_of y) → Follows step x (reply_row y as' s).following) →
    d' ≡ record d { reply = d'.reply } →
    TookRow acted cache row moment before q d after q d' step
unfolding all_put
took_reply {acted = acted} {cache = cache} {moment = moment} {before = before} {after = after} {q = q} {d = d} {d' = d'} {step = step} r actions e a m f k =
    let l : Leaves (reply_row r actions (at cache q d)) (query_of q) actions = reply-leaves r actions (at cache q d) in
    record {
      acts = rw (e, l.actions) a;
      query = rw (e, l.query) refl;
      store = rw (e, l.puts) (ap (λ (x : Desk _). cache x.store) k);
      links = ap (λ (x : Desk _). x.link) k;
      setting = ap (λ (x : Desk _). setting_at x moment) k;
      counts = ap (λ (x : Desk _). x.counts) k;
      next = rw e (f d'.reply r actions (at cache q d) m.fits m.draft);
    }
