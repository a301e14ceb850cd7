-- Rows that a program takes, one after another, as a turn.
use Rattle.std.proofs.Common.{◌≡◌, ℕ, suc, List, ◌++◌, Some, refl, sym, ap, ◌∙◌, subst, arith}
use Rattle.std.specs.Prelude.{IsNone, IsSome}
use Rattle.dc_model.specs.Event.{second, Action}
use Rattle.dc_model.specs.Cache.{Cache}
use Rattle.dc_model.specs.Puts.{all_put}
use Rattle.dc_model.specs.Message.{Request}
use Rattle.dc_transmit.specs.Standing.{Standing}
use Rattle.dc_reply.specs.Draft.{Draft}
use Rattle.dc_machine.specs.Query as machine
use Rattle.dc_machine.specs.Turn as turn
use Rattle.dc_machine.specs.Turn.{Setting, State, Point, at_begin, Row, Following, go, end, row, state_after, links_after, before, rows, turn as turn_from, Turned, onward}
use Rattle.dc_machine.specs.Good.{IsGood, AreShort, rank}
use Rattle.dc_machine.specs.Took.{Took, TookTurn}
use Rattle.dc_machine.proofs.Fine.{IsFine, row_fine, fine_good}
use Rattle.dc_machine.proofs.Rows.{turn_ends, rows_more}
use Rattle.dc_frames.specs.declared.query.Query.{Query}
use Rattle.dc_frames.specs.View.{query_of}
use Rattle.dc_desk.specs.View.{setting_of, setting_at, at}
use Rattle.dc_desk.specs.Steps.{point_of, cause_of, Follows, TookRow}
use Rattle.dc_desk.specs.declared.desk.Desk.{Desk}
use Rattle.dc_desk.specs.declared.moment.Moment.{Moment}
use Rattle.dc_desk.specs.declared.outcome.Outcome.{Outcome}
use Rattle.dc_desk.specs.declared.outcome.Outcome.TheVariants.{Waiting, Replied, Dropped}
use Rattle.dc_desk.specs.declared.step.Point.{Point as CodePoint}
use Rattle.dc_desk.specs.declared.step.Step.{Step}
use Rattle.dc_desk.specs.declared.step.Step.TheVariants.{Go, End}
use Rattle.dc_resolve.specs.Steps.{Ends, Comes, TookStep}
use Rattle.dc_resolve.specs.Turns.{TookTurned}

-- What follows a rule that asks nobody, with an idle transmission.
pub comes : (step : Step) (d : Draft) (w : Standing) (f : Following) → Follows step d f → IsNone w.attempt → Comes step d w f
comes (Go p) d w f h i = (h, i)
comes (End Waiting) d w f h i = absurd h
comes (End Replied) d w f h i = (turn.replied h.0, h.1, (h.0, refl, h.2, i))
comes (End (Dropped c)) d w f h i = (turn.dropped (cause_of c), h, (refl, i))

-- Such a rule takes no link.
no_link : (step : Step) (d : Draft) (f : Following) (n : ℕ) → Follows step d f → links_after f n ≡ n
no_link (Go p) d f n h = ap (λ x. links_after x n) h
no_link (End Waiting) d f n h = absurd h
no_link (End Replied) d f n h = ap (λ x. links_after x n) h.1
no_link (End (Dropped c)) d f n h = ap (λ x. links_after x n) h

state_is : (q q' : machine.Query) (c c' : Cache) (n n' : ℕ) → q ≡ q' → c ≡ c' → n ≡ n' → (let s : State = record { query = q; cache = c; links = n } in s) ≡ record { query = q'; cache = c'; links = n' }
state_is q q' c c' n n' e f h = rw (e, f, h) refl

second_is : {S : Type 0} (d : Desk S) (moment : Moment) → second (setting_at d moment).now ≡ second moment.time
unfolding setting_of
second_is d moment = refl

-- A row of the table was taken, part by part.
pub took_as : {S O : Type 0} (acted : O → List Action → O → Type 0) (cache : S → Cache) (p : Point) (moment : Moment)
    (a : O) (q : Query) (d : Desk S) (b : O) (q' : Query) (d' : Desk S) (r : Row) →
    row (setting_at d moment) p (at cache q d) ≡ r →
    acted a r.actions b → query_of q' ≡ r.query → cache d'.store ≡ all_put r.puts (second moment.time) (cache d.store) → d'.link ≡ links_after r.following d.link →
    Took acted a b (setting_at d moment) p (at cache q d) (at cache q' d') (row (setting_at d moment) p (at cache q d)).following
unfolding state_after
took_as acted cache p moment a q d b q' d' r e acts query store links =
    record {
      acts = subst (λ (x : Row). acted a x.actions b) (sym e) acts;
      state = state_is _ _ _ _ _ _ query (rw (second_is d moment) store) links ∙ sym (ap (λ (x : Row). state_after (setting_at d moment) (at cache q d) x) e);
      next = refl;
    }

pub step_as : {S O : Type 0} (acted : O → List Action → O → Type 0) (cache : S → Cache) (p : Point) (moment : Moment)
    (a : O) (q : Query) (d : Desk S) (b : O) (q' : Query) (d' : Desk S) (w : Standing) (step : Step) (r : Row) →
    row (setting_at d moment) p (at cache q d) ≡ r →
    acted a r.actions b → query_of q' ≡ r.query → cache d'.store ≡ all_put r.puts (second moment.time) (cache d.store) → d'.link ≡ links_after r.following d.link →
    setting_at d' moment ≡ setting_at d moment → d'.counts ≡ d.counts → Comes step d'.reply w r.following →
    TookStep acted cache p moment a q d b q' d' w step
step_as acted cache p moment a q d b q' d' w step r e acts query store links setting counts next = record {
  took = took_as acted cache p moment a q d b q' d' r e acts query store links;
  setting = setting;
  counts = counts;
  next = subst (λ (x : Row). Comes step d'.reply w x.following) (sym e) next;
}

-- A row that asks nobody, as a row of the table.
pub took : {S O : Type 0} (acted : O → List Action → O → Type 0) (cache : S → Cache) (p : Point) (moment : Moment)
    (a : O) (q : Query) (d : Desk S) (b : O) (q' : Query) (d' : Desk S) (step : Step) →
    TookRow acted cache (λ g s. row g p s) moment a q d b q' d' step →
    Took acted a b (setting_at d moment) p (at cache q d) (at cache q' d') (row (setting_at d moment) p (at cache q d)).following
took acted cache p moment a q d b q' d' step h =
    took_as acted cache p moment a q d b q' d' _ refl h.acts h.query h.store (h.links ∙ sym (no_link step d'.reply (row (setting_at d moment) p (at cache q d)).following d.link h.next))

pub took_step : {S O : Type 0} (acted : O → List Action → O → Type 0) (cache : S → Cache) (p : Point) (moment : Moment)
    (a : O) (q : Query) (d : Desk S) (b : O) (q' : Query) (d' : Desk S) (w : Standing) (step : Step) →
    TookRow acted cache (λ g s. row g p s) moment a q d b q' d' step → IsNone w.attempt → TookStep acted cache p moment a q d b q' d' w step
took_step acted cache p moment a q d b q' d' w step h i = record {
  took = took acted cache p moment a q d b q' d' step h;
  setting = h.setting;
  counts = h.counts;
  next = comes step d'.reply w _ h.next i;
}

-- Where only the query's form differs, a row is taken from it as well.
pub step_same : {S O : Type 0} (acted : O → List Action → O → Type 0) (cache : S → Cache) (p : Point) (moment : Moment)
    (a : O) (q r : Query) (d : Desk S) (b : O) (q' : Query) (d' : Desk S) (w : Standing) (step : Step) →
    query_of r ≡ query_of q → TookStep acted cache p moment a r d b q' d' w step → TookStep acted cache p moment a q d b q' d' w step
step_same acted cache p moment a q r d b q' d' w step e h =
    let P : machine.Query → Type 0 = λ x. let s : State = record { query = x; cache = cache d.store; links = d.link } in
    Took acted a b (setting_at d moment) p s (at cache q' d') (row (setting_at d moment) p s).following in
    let N : machine.Query → Type 0 = λ x. let s : State = record { query = x; cache = cache d.store; links = d.link } in
    Comes step d'.reply w (row (setting_at d moment) p s).following in
    record { took = subst P e h.took; setting = h.setting; counts = h.counts; next = subst N e h.next }

rows_by : (g : Setting) (n k : ℕ) (p : Point) (s : State) → n ≡ suc k → rows g n p s ≡ onward (row g p s).following (row g p s) (state_after g s (row g p s)) (rows g k)
unfolding rows
rows_by g n k p s e = ap (λ x. rows g x p s) e

turn_by : (g : Setting) (p : Point) (s : State) → turn_from g p s ≡ onward (row g p s).following (row g p s) (state_after g s (row g p s)) (rows g 3999)
unfolding turn_from
turn_by g p s = rows_by g 4000 3999 p s (omega arith)

onward_go : (f : Following) (q : Point) (r : Row) (t : State) (further : Point → State → Turned) → go q ≡ f → onward f r t further ≡ before r.puts r.actions (further q t)
unfolding onward
onward_go f q r t further e = ap (λ x. onward x r t further) (sym e)

onward_end : (f : Following) (o : turn.Outcome) (r : Row) (t : State) (further : Point → State → Turned) → end o ≡ f
    → onward f r t further ≡ record { state = t; puts = r.puts; actions = r.actions; outcome = Some o }
unfolding onward
onward_end f o r t further e = ap (λ x. onward x r t further) (sym e)

more : (g : Setting) (q : Point) (t : State) → IsSome (rows g 3999 q t).outcome → rows g 3999 q t ≡ turn_from g q t
unfolding turn_from
more g q t some = sym (rows_more g 3999 4000 q t (omega arith) some)

-- A turn whose first row goes on is that row and the turn from where it goes on.
pub turn_first : (g : Setting) (p q : Point) (s : State) → IsGood p s.query → go q ≡ (row g p s).following
    → turn_from g p s ≡ before (row g p s).puts (row g p s).actions (turn_from g q (state_after g s (row g p s)))
turn_first g p q s k e =
    let t : State = state_after g s (row g p s) in
    let one : turn_from g p s ≡ before (row g p s).puts (row g p s).actions (rows g 3999 q t) = turn_by g p s ∙ onward_go (row g p s).following q (row g p s) t (rows g 3999) e in
    let some : IsSome (rows g 3999 q t).outcome = subst (λ (x : Turned). IsSome x.outcome) one (turn_ends g p s k) in
    one ∙ ap (before (row g p s).puts (row g p s).actions) (more g q t some)

-- A turn whose first row is its last.
pub turn_last : (g : Setting) (p : Point) (s : State) (o : turn.Outcome) → end o ≡ (row g p s).following
    → turn_from g p s ≡ record { state = state_after g s (row g p s); puts = (row g p s).puts; actions = (row g p s).actions; outcome = Some o }
turn_last g p s o e = turn_by g p s ∙ onward_end (row g p s).following o (row g p s) (state_after g s (row g p s)) (rows g 3999) e

pub turned_more : {S O : Type 0} (acted : O → List Action → O → Type 0) (both : (a b c : O) (xs ys : List Action) → acted a xs b → acted b ys c → acted a (xs ++ ys) c)
    (cache : S → Cache) (p : Point) (moment : Moment)
    (a : O) (q : Query) (d : Desk S) (b : O) (q' : Query) (d' : Desk S) (further : CodePoint) (c : O) (t : State) (reply : Draft) (w : Standing) (answer : Outcome) →
    IsGood p (query_of q) →
    TookRow acted cache (λ g s. row g p s) moment a q d b q' d' (Go further) →
    TookTurned acted b c (turn_from (setting_at d' moment) (point_of further) (at cache q' d')) t reply w answer →
    TookTurned acted a c (turn_from (setting_at d moment) p (at cache q d)) t reply w answer
turned_more acted both cache p moment a q d b q' d' further c t reply w answer k h r =
    let g : Setting = setting_at d moment in
    let s : State = at cache q d in
    let m = took acted cache p moment a q d b q' d' (Go further) h in
    let e : turn_from g p s ≡ before (row g p s).puts (row g p s).actions (turn_from (setting_at d' moment) (point_of further) (at cache q' d')) =
    turn_first g p (point_of further) s k (sym h.next) ∙ ap (λ x. before (row g p s).puts (row g p s).actions (turn_from g (point_of further) x)) (sym m.state)
    ∙ ap (λ x. before (row g p s).puts (row g p s).actions (turn_from x (point_of further) (at cache q' d'))) (sym h.setting) in
    record {
      acts = subst (λ (x : Turned). acted a x.actions c) (sym e) (both a b c _ _ h.acts r.acts);
      state = r.state ∙ sym (ap (λ (x : Turned). x.state) e);
      outcome = r.outcome;
      same = r.same ∙ sym (ap (λ (x : Turned). x.outcome) e);
      ends = r.ends;
    }

-- A turn of one row.
pub turned_ends : {S O : Type 0} (acted : O → List Action → O → Type 0) (cache : S → Cache) (p : Point) (moment : Moment)
    (a : O) (q : Query) (d : Desk S) (b : O) (q' : Query) (d' : Desk S) (w : Standing) (answer : Outcome) →
    TookRow acted cache (λ g s. row g p s) moment a q d b q' d' (End answer) → IsNone w.attempt →
    TookTurned acted a b (turn_from (setting_at d moment) p (at cache q d)) (at cache q' d') d'.reply w answer
turned_ends acted cache p moment a q d b q' d' w answer h i =
    let g : Setting = setting_at d moment in
    let s : State = at cache q d in
    let m = took acted cache p moment a q d b q' d' (End answer) h in
    let n = comes (End answer) d'.reply w (row g p s).following h.next i in
    let e : turn_from g p s ≡ record { state = state_after g s (row g p s); puts = (row g p s).puts; actions = (row g p s).actions; outcome = Some n.0 } = turn_last g p s n.0 (sym n.1) in
    record {
      acts = subst (λ (x : Turned). acted a x.actions b) (sym e) h.acts;
      state = m.state ∙ sym (ap (λ (x : Turned). x.state) e);
      outcome = n.0;
      same = sym (ap (λ (x : Turned). x.outcome) e);
      ends = n.2;
    }

-- A row that goes on.
pub took_go : {O : Type 0} (acted : O → List Action → O → Type 0) (a b : O) (g : Setting) (p q : Point) (s t : State) →
    Took acted a b g p s t (row g p s).following → (row g p s).following ≡ go q → Took acted a b g p s t (go q)
took_go acted a b g p q s t h e = subst (λ f. Took acted a b g p s t f) e h

-- It uses no link.
pub links_stay : {O : Type 0} (acted : O → List Action → O → Type 0) (a b : O) (g : Setting) (p q : Point) (s t : State) → Took acted a b g p s t (go q) → t.links ≡ s.links
unfolding state_after
links_stay acted a b g p q s t h = ap (λ (x : State). x.links) h.state ∙ ap (λ f. links_after f s.links) (sym h.next)

-- The last row of a turn.
pub turn_over : {O : Type 0} (acted : O → List Action → O → Type 0) (a b : O) (g : Setting) (p : Point) (s t : State) (d : Draft) (w : Standing) (answer : Outcome) (o : turn.Outcome) →
    TookTurn acted a b g p s t o → Ends answer d w o → TookTurned acted a b (turn_from g p s) t d w answer
turn_over acted a b g p s t d w answer o h e = record { acts = h.acts; state = h.state; outcome = o; same = h.outcome; ends = e }

-- A row that ends the turn.
pub took_end : {O : Type 0} (acted : O → List Action → O → Type 0) (a b : O) (g : Setting) (p : Point) (o : turn.Outcome) (s t : State) →
    Took acted a b g p s t (row g p s).following → (row g p s).following ≡ end o → Took acted a b g p s t (end o)
took_end acted a b g p o s t h e = subst (λ f. Took acted a b g p s t f) e h

-- Where the first row of a turn goes on, the query is good for what comes.
pub first_good : {S O : Type 0} (acted : O → List Action → O → Type 0) (cache : S → Cache) (p : Point) (moment : Moment)
    (a : O) (q : Query) (d : Desk S) (b : O) (q' : Query) (d' : Desk S) (further : CodePoint) →
    IsGood p (query_of q) → TookRow acted cache (λ g s. row g p s) moment a q d b q' d' (Go further) → IsGood (point_of further) (query_of q')
unfolding state_after
first_good acted cache p moment a q d b q' d' further k h =
    let g : Setting = setting_at d moment in
    let s : State = at cache q d in
    let f : IsFine (rank p s.query) s.links (go (point_of further)) (row g p s).query = subst (λ x. IsFine (rank p s.query) s.links x (row g p s).query) h.next (row_fine g p s k) in
    subst (λ x. IsGood (point_of further) x) (sym h.query) (fine_good _ _ _ _ f)

begun_good : (r : Request) → IsGood at_begin (machine.query_for r)
unfolding AreShort
begun_good r = record { least = omega arith; most = omega arith; turns = omega arith; short = tt }

-- A query that takes a request is good for its beginning.
pub begins_good : (q : Query) (r : Request) → query_of q ≡ machine.query_for r → IsGood at_begin (query_of q)
begins_good q r e = subst (λ x. IsGood at_begin x) (sym e) (begun_good r)
