-- A recorded world: what it has read and written, and the relations between two of its states.
use Rattle.std.specs.Prelude.{◌≡◌, ℕ, ◌+◌, ◌^◌, ◌<◌, Bool, true, false, ◌&&◌, List, [], ◌∷◌, ◌++◌, ◌⊎◌, length, take, refl}
use Rattle.std.proofs.Common.{sym, ◌∙◌, ap, ◌≤◌, arith, subst}
use Rattle.std.proofs.lemmas.Bool.{false≢true}
use Rattle.std.specs.declared.option.Option.{Option}
use Rattle.std.specs.declared.option.Option.TheVariants.{None, Some}
use Rattle.std.specs.Io.KnownBytes.{IsAtEnd}
use Rattle.dc_model.specs.Event.{Event, IsEvent, Action}
use Rattle.dc_event.specs.declared.answers.Heard.{Heard as Answer}
use Rattle.dc_event.specs.declared.answers.Heard.TheVariants as answer
use Rattle.dc_event.specs.Answers.{heard_by, count_heard}
use Rattle.dc_event.specs.History.{Exchange, listened, asked, answer_by, gathered_by, done_all, events_in, actions_in, last_in, kept_in, events-both, actions-both, last-both, kept-both, events-done, actions-done, last-done, kept-done, events_asked, answered_by}
use Rattle.dc_script.specs.Script.{bad_at, most_line}
use Rattle.dc_script.specs.Lines.{IsOneLine}
use Rattle.dc_script.specs.declared.lines.NextLine.{NextLine}
use Rattle.dc_script.specs.declared.lines.NextLine.TheVariants.{Found, TooLong, Ended, Failed}
use Rattle.dc_script.specs.Text.{action_text, text_of}
use Rattle.dc_script.specs.Read.{ReadOff, ReadOff-none, ReadOff-both, says}
use Rattle.dc_script.specs.Written.{Written, Written-none, written_whole, Done-both, text_of-one}
use Rattle.dc_writer.specs.Fated.{Fated, Fated-none, Fated-both}
use Rattle.dc_script.specs.Order.{over_after, late, over-both, late-both, neither, late_by, over_by, and_false, over_done}

-- A recorded world over a source and a sink: the source, the text taken from it that isn't handed out, how many lines were handed out,
-- the source's count of faults when the world was made, and whether a read has failed; the sink, its count when the world was made, and
-- whether a write has failed; the world's own count, its last answer, the addresses that it keeps, and the moment of the event that was
-- handed out last.
pub record Recorded (S K : Type 0) : Type 0 where
  pub source : S
  pub unread : List ℕ
  pub lines : ℕ
  pub source_start : ℕ
  pub read_failed : Bool
  pub sink : K
  pub sink_start : ℕ
  pub write_failed : Bool
  pub faults : ℕ
  pub last : Option Answer
  pub kept : Option (List ℕ × List ℕ)
  pub moment : Option ℕ

-- A recorded world that opens with these bytes of a script, behind so many lines.
abbrev pub opened : {S K : Type 0} → (S → ℕ) → (K → ℕ) → List ℕ → ℕ → S → K → Recorded S K
opened source_faults sink_faults text lines source sink = record {
  source = source;
  unread = text;
  lines = lines;
  source_start = source_faults source;
  read_failed = false;
  sink = sink;
  sink_start = sink_faults sink;
  write_failed = false;
  faults = 0;
  last = None;
  kept = None;
  moment = None;
}

-- These actions were written, and nothing else changed.
pub record Acted {S K : Type 0} (gained : K → List ℕ → K → Type 0) (refused : K → K → Type 0) (faults : K → ℕ) (old : Recorded S K) (actions : List Action) (new : Recorded S K) : Type 0 where
  pub written : Written gained old.write_failed new.write_failed old.sink (text_of actions) new.sink
  pub fated : Fated gained refused faults old.write_failed new.write_failed old.sink new.sink
  pub same : new ≡ record old { sink = new.sink; write_failed = new.write_failed }
  pub quiet : actions ≡ [] → new ≡ old

-- The text has no whole line of an event.
abbrev pub SaysNoMore : List ℕ → Type 0
SaysNoMore text = (n : ℕ) → (says n text).events ≡ []

-- These events were handed out. Where a read failed since, no whole line of an event is left; where one had failed before, nothing was
-- read.
pub record HandedOut {S K : Type 0} (took : S → List ℕ → S → Type 0) (refused : S → S → Type 0) (faults : S → ℕ) (old : Recorded S K) (events : List Event) (new : Recorded S K) : Type 0 where
  pub heard : ReadOff took old.source old.unread old.lines events new.source new.unread new.lines
  pub fated : Fated took refused faults old.read_failed new.read_failed old.source new.source
  pub same_start : new.source_start ≡ old.source_start
  pub stopped : old.read_failed ≡ false → new.read_failed ≡ true → SaysNoMore new.unread
  pub stays : old.read_failed ≡ true → (new.read_failed ≡ true) × (new.unread ≡ old.unread)

-- These actions were written.
pub record Wrote {S K : Type 0} (gained : K → List ℕ → K → Type 0) (refused : K → K → Type 0) (faults : K → ℕ) (old : Recorded S K) (actions : List Action) (new : Recorded S K) : Type 0 where
  pub written : Written gained old.write_failed new.write_failed old.sink (text_of actions) new.sink
  pub fated : Fated gained refused faults old.write_failed new.write_failed old.sink new.sink
  pub same_start : new.sink_start ≡ old.sink_start

-- What passed, of which the order isn't told: these events were handed out, and these actions were written. While the world hasn't failed,
-- no read has; a read fails only where the world does; and a read and a write have both failed only where something was done behind a failure.
pub record Passed {S K : Type 0} (took : S → List ℕ → S → Type 0) (missed : S → S → Type 0) (source_faults : S → ℕ) (gained : K → List ℕ → K → Type 0) (refused : K → K → Type 0)
    (sink_faults : K → ℕ) (old : Recorded S K) (history : List Exchange) (new : Recorded S K) : Type 0 where
  pub heard : HandedOut took missed source_faults old (events_in history) new
  pub done : Wrote gained refused sink_faults old (actions_in history) new
  pub answered : new.last ≡ last_in old.last history
  pub kept_addresses : new.kept ≡ kept_in old.kept history
  pub calm : new.faults ≡ 0 → (old.faults ≡ 0) × (new.read_failed ≡ old.read_failed)
  pub over : new.read_failed ≡ true → over_after old.read_failed history ≡ true
  pub apart : late old.read_failed history ≡ false → old.write_failed && old.read_failed ≡ false → new.write_failed && new.read_failed ≡ false

-- The script ends here, with its line `end` and nothing behind it.
abbrev pub IsOver : List ℕ → Type 0
IsOver text = (n : ℕ) → says n text ≡ record { events = []; bad = None }

-- After so many lines, line k is outside the grammar: whatever follows, or since the source is at its end.
pub record Breaks (left : Option (List ℕ)) (text : List ℕ) (lines k : ℕ) : Type 0 where
  pub ahead : ℕ
  pub near : ahead ≤ 1
  pub number : lines + 1 + ahead < 2 ^ 64 → k ≡ lines + 1 + ahead
  pub bad : ((tail : List ℕ) (n : ℕ) → says n (text ++ tail) ≡ bad_at (n + ahead)) ⊎ (IsAtEnd left × ((n : ℕ) → says n text ≡ bad_at (n + ahead)))

-- What stands of a line that was looked for: it was found; or it is too long; or there is no whole line, and the source is at its end, or
-- failed.
abbrev pub Peeked : NextLine → (found : Bool) → (rest : List ℕ) → (left : Option (List ℕ)) → Type 0
Peeked Found found rest left = found ≡ true
Peeked TooLong found rest left = (found ≡ false) × (most_line < length rest) × IsOneLine (take (most_line + 1) rest)
Peeked Ended found rest left = (found ≡ false) × IsOneLine rest × IsAtEnd left
Peeked Failed found rest left = (found ≡ false) × IsOneLine rest

-- What an answer without an event says.
abbrev pub NoEvent : Answer → (over : Type 0) → (breaks : ℕ → Type 0) → (failed : Type 0) → Type 0
NoEvent answer.Event over breaks failed = ⊥
NoEvent answer.End over breaks failed = over
NoEvent answer.Failed over breaks failed = failed
NoEvent (answer.Bad line) over breaks failed = breaks line

-- What an answer says.
abbrev pub Answered : Answer → Event → (over : Type 0) → (breaks : ℕ → Type 0) → (failed : Type 0) → Type 0
Answered answer.Event e over breaks failed = IsEvent e
Answered answer.End e over breaks failed = over
Answered answer.Failed e over breaks failed = failed
Answered (answer.Bad line) e over breaks failed = breaks line

-- One fact where the answer is a fault, and another where it is none.
abbrev pub IfFailed : Answer → (failed other : Type 0) → Type 0
IfFailed answer.Event failed other = other
IfFailed answer.End failed other = other
IfFailed answer.Failed failed other = failed
IfFailed (answer.Bad line) failed other = other

-- The same of a line that was looked for.
abbrev pub IfStopped : NextLine → (failed other : Type 0) → Type 0
IfStopped Found failed other = other
IfStopped TooLong failed other = other
IfStopped Ended failed other = other
IfStopped Failed failed other = failed

-- Laws

no_parts : (xs ys : List Action) → xs ++ ys ≡ [] → (xs ≡ []) × (ys ≡ [])
no_parts [] ys e = (refl, e)
no_parts (x ∷ xs) ys e = cc

module _ {S K : Type 0} (gained : K → List ℕ → K → Type 0) (none : (a : K) → gained a [] a)
    (both : (a b c : K) (xs ys : List ℕ) → gained a xs b → gained b ys c → gained a (xs ++ ys) c) (refused : K → K → Type 0) (faults : K → ℕ) where
  pub Acted-none : (a : Recorded S K) → Acted gained refused faults a [] a
  unfolding text_of
  Acted-none a = record { written = Written-none gained none both a.write_failed a.sink; fated = Fated-none gained refused faults a.write_failed a.sink; same = refl; quiet = λ e. refl }

  pub Acted-both : (a b c : Recorded S K) (xs ys : List Action) → Acted gained refused faults a xs b → Acted gained refused faults b ys c → Acted gained refused faults a (xs ++ ys) c
  Acted-both a b c xs ys p q = record {
    written = Done-both gained none both a.write_failed b.write_failed c.write_failed a.sink b.sink c.sink xs ys p.written q.written;
    fated = Fated-both gained refused faults both a.write_failed b.write_failed c.write_failed a.sink b.sink c.sink (text_of xs)
        (written_whole gained a.write_failed b.write_failed a.sink b.sink (text_of xs) p.written) p.fated q.fated;
    same = q.same ∙ ap {A = Recorded S K} (λ w. record w { sink = c.sink; write_failed = c.write_failed }) p.same;
    quiet = λ e.
        let parts = no_parts xs ys e in
        q.quiet parts.1 ∙ p.quiet parts.0;
  }

  pub Wrote-none : (a : Recorded S K) → Wrote gained refused faults a [] a
  unfolding text_of
  Wrote-none a = record { written = Written-none gained none both a.write_failed a.sink; fated = Fated-none gained refused faults a.write_failed a.sink; same_start = refl }

  pub Wrote-both : (a b c : Recorded S K) (xs ys : List Action) → Wrote gained refused faults a xs b → Wrote gained refused faults b ys c → Wrote gained refused faults a (xs ++ ys) c
  Wrote-both a b c xs ys p q = record {
    written = Done-both gained none both a.write_failed b.write_failed c.write_failed a.sink b.sink c.sink xs ys p.written q.written;
    fated = Fated-both gained refused faults both a.write_failed b.write_failed c.write_failed a.sink b.sink c.sink (text_of xs)
        (written_whole gained a.write_failed b.write_failed a.sink b.sink (text_of xs) p.written) p.fated q.fated;
    same_start = q.same_start ∙ p.same_start;
  }

-- One action, which may set nothing but the sink and whether a write has failed.
pub Acted-one : {S K : Type 0} (gained : K → List ℕ → K → Type 0) (refused : K → K → Type 0) (faults : K → ℕ) (a : Recorded S K) (sink : K) (start : ℕ) (failed : Bool) (x : Action)
    → Written gained a.write_failed failed a.sink (action_text x) sink → Fated gained refused faults a.write_failed failed a.sink sink → start ≡ a.sink_start
    → Acted gained refused faults a (x ∷ []) (record a { sink = sink; sink_start = start; write_failed = failed })
Acted-one {S} {K} gained refused faults a sink start failed x w f e =
    record { written = rw text_of-one w; fated = f; same = ap {A = ℕ} (λ n. record a { sink = sink; sink_start = n; write_failed = failed }) e; quiet = λ h. cc }

module _ {S K : Type 0} (gained : K → List ℕ → K → Type 0) (none : (a : K) → gained a [] a)
    (both : (a b c : K) (xs ys : List ℕ) → gained a xs b → gained b ys c → gained a (xs ++ ys) c) (refused : K → K → Type 0) (faults : K → ℕ) where
  -- Where the sink is the same, nothing was written.
  pub Wrote-same : (a : Recorded S K) (source : S) (unread : List ℕ) (lines start : ℕ) (read_failed : Bool) (count : ℕ) (last : Option Answer) (kept : Option (List ℕ × List ℕ)) (moment : Option ℕ)
      → Wrote gained refused faults a [] (record a { source = source; unread = unread; lines = lines; source_start = start; read_failed = read_failed; faults = count; last = last; kept = kept; moment = moment })
  unfolding text_of
  Wrote-same a source unread lines start read_failed count last kept moment = record { written = Written-none gained none both a.write_failed a.sink; fated = Fated-none gained refused faults a.write_failed a.sink; same_start = refl }

  pub Wrote-next : (old mid new : Recorded S K) (count : ℕ) (last : Option Answer)
      → mid ≡ record old { source = mid.source; unread = mid.unread; lines = mid.lines; read_failed = mid.read_failed; moment = mid.moment }
      → new ≡ record mid { faults = count; last = last } → Wrote gained refused faults old [] new
  Wrote-next old mid new count last e f =
      let P : Recorded S K → Type 0 = λ w. Wrote gained refused faults old [] w in
      let Q : Recorded S K → Type 0 = λ w. Wrote gained refused faults old [] (record w { faults = count; last = last }) in
      subst P (sym f) (subst Q (sym e) (Wrote-same old mid.source mid.unread mid.lines old.source_start mid.read_failed count last old.kept mid.moment))

-- What a call of `next` changes.
pub next_same : {S K : Type 0} (old mid new : Recorded S K) (a : Answer)
    → mid ≡ record old { source = mid.source; unread = mid.unread; lines = mid.lines; read_failed = mid.read_failed; moment = mid.moment }
    → new ≡ record mid { faults = count_heard a mid.faults; last = Some a }
    → new ≡ record old { source = new.source; unread = new.unread; lines = new.lines; read_failed = new.read_failed; faults = count_heard a old.faults; last = Some a; moment = new.moment }
next_same {S} {K} old mid new a e f =
    let P : Recorded S K → Type 0 = λ w. w ≡ record old { source = w.source; unread = w.unread; lines = w.lines; read_failed = w.read_failed; faults = count_heard a old.faults; last = Some a; moment = w.moment } in
    subst P (sym f) (ap {A = Recorded S K} (λ w. record w { faults = count_heard a w.faults; last = Some a }) e)

-- What is unread behind a read that failed.
pub next_stopped : {S K : Type 0} (mid new : Recorded S K) (a : Answer) → new ≡ record mid { faults = count_heard a mid.faults; last = Some a }
    → (mid.read_failed ≡ true → SaysNoMore mid.unread) → new.read_failed ≡ true → SaysNoMore new.unread
next_stopped {S} {K} mid new a e h =
    let P : Recorded S K → Type 0 = λ w. w.read_failed ≡ true → SaysNoMore w.unread in
    subst P (sym e) h

-- Where a list was acted, it was written.
pub Acted-wrote : {S K : Type 0} (gained : K → List ℕ → K → Type 0) (refused : K → K → Type 0) (faults : K → ℕ) (a b : Recorded S K) (xs : List Action)
    → Acted gained refused faults a xs b → Wrote gained refused faults a xs b
Acted-wrote gained refused faults a b xs p = record { written = p.written; fated = p.fated; same_start = ap (λ w. w.sink_start) p.same }

pub Acted-faults : {S K : Type 0} (gained : K → List ℕ → K → Type 0) (refused : K → K → Type 0) (faults : K → ℕ) (a b : Recorded S K) (xs : List Action)
    → Acted gained refused faults a xs b → b.faults ≡ a.faults
Acted-faults gained refused faults a b xs p = ap (λ w. w.faults) p.same

-- What isn't failed hasn't failed.
no_change : (failed : Bool) (P : Type 0) → failed ≡ false → failed ≡ true → P
no_change false P e f = cc
no_change true P e f = cc

-- A read that failed did so in the first part or in the second.
stopped_by : (mid old new : Bool) (held left : List ℕ) {now : Bool} → now ≡ mid → (old ≡ false → now ≡ true → SaysNoMore held)
    → (now ≡ false → new ≡ true → SaysNoMore left) → (now ≡ true → (new ≡ true) × (left ≡ held)) → old ≡ false → new ≡ true → SaysNoMore left
stopped_by false old new held left at first second stays e f = second at f
stopped_by true old new held left at first second stays e f =
    let P : List ℕ → Type 0 = λ text. SaysNoMore text in
    subst P (sym (stays at).1) (first e at)

module _ {S K : Type 0} (took : S → List ℕ → S → Type 0) (none : (a : S) → took a [] a)
    (both : (a b c : S) (xs ys : List ℕ) → took a xs b → took b ys c → took a (xs ++ ys) c) (refused : S → S → Type 0) (faults : S → ℕ) where
  pub HandedOut-none : (a : Recorded S K) → HandedOut took refused faults a [] a
  HandedOut-none a = record {
    heard = ReadOff-none took none both a.source a.unread a.lines;
    fated = Fated-none took refused faults a.read_failed a.source;
    same_start = refl;
    stopped = no_change a.read_failed (SaysNoMore a.unread);
    stays = λ failed. (failed, refl);
  }

  pub HandedOut-both : (a b c : Recorded S K) (xs ys : List Event) → HandedOut took refused faults a xs b → HandedOut took refused faults b ys c → HandedOut took refused faults a (xs ++ ys) c
  HandedOut-both a b c xs ys p q = record {
    heard = ReadOff-both took none both a.source b.source c.source a.unread b.unread c.unread a.lines b.lines c.lines xs ys p.heard q.heard;
    fated = Fated-both took refused faults both a.read_failed b.read_failed c.read_failed a.source b.source c.source p.heard.bytes (λ e f. p.heard.taken) p.fated q.fated;
    same_start = q.same_start ∙ p.same_start;
    stopped = stopped_by b.read_failed a.read_failed c.read_failed b.unread c.unread refl p.stopped q.stopped q.stays;
    stays = λ failed.
        let first = p.stays failed in
        let then = q.stays first.0 in
        (then.0, then.1 ∙ first.1);
  }

  -- Where a list was acted, nothing was handed out.
  pub Acted-heard : (gained : K → List ℕ → K → Type 0) (unwritten : K → K → Type 0) (sink_faults : K → ℕ) (a b : Recorded S K) (xs : List Action) → Acted gained unwritten sink_faults a xs b
      → HandedOut took refused faults a [] b
  Acted-heard gained unwritten sink_faults a b xs p =
      let P : Recorded S K → Type 0 = λ w. HandedOut took refused faults a [] w in
      subst P (sym p.same) (record {
        heard = ReadOff-none took none both a.source a.unread a.lines;
        fated = Fated-none took refused faults a.read_failed a.source;
        same_start = refl;
        stopped = no_change a.read_failed (SaysNoMore a.unread);
        stays = λ failed. (failed, refl);
      })

-- Where the world's count is 0 behind an answer, the answer was no fault.
calm_by : (a : Answer) (before : ℕ) (P : Type 0) → IfFailed a (Unit {0}) P → count_heard a before ≡ 0 → (before ≡ 0) × P
calm_by answer.Event before P p none = (none, p)
calm_by answer.End before P p none = (none, p)
calm_by answer.Failed before P p none = absurd (omega (arith, none))
calm_by (answer.Bad line) before P p none = (none, p)

-- Less is said of a fault.
pub IfFailed-less : (a : Answer) (failed P : Type 0) → IfFailed a failed P → IfFailed a (Unit {0}) P
IfFailed-less answer.Event failed P p = p
IfFailed-less answer.End failed P p = p
IfFailed-less answer.Failed failed P p = tt
IfFailed-less (answer.Bad line) failed P p = p

-- A read has failed only behind a failed asking.
over_by_answer : (a : Answer) (wake : Option ℕ) (e : Event) (before now : Bool) → IfFailed a (Unit {0}) (now ≡ before) → now ≡ true → over_after before (asked wake (answer_by a e) ∷ []) ≡ true
over_by_answer answer.Event wake e before now same h = sym same ∙ h
over_by_answer answer.End wake e before now same h = sym same ∙ h
over_by_answer answer.Failed wake e before now same h = refl
over_by_answer (answer.Bad line) wake e before now same h = sym same ∙ h

-- A further event is no action, no answer and no call of `listen`.

no_action : (more : Bool) (e : Event) → actions_in (gathered_by more e) ≡ []
no_action true e = refl
no_action false e = refl

no_answer : (before : Option Answer) (more : Bool) (e : Event) → last_in before (gathered_by more e) ≡ before
no_answer before true e = refl
no_answer before false e = refl

no_addresses : (before : Option (List ℕ × List ℕ)) (more : Bool) (e : Event) → kept_in before (gathered_by more e) ≡ before
no_addresses before true e = refl
no_addresses before false e = refl

-- A read and a write haven't both failed: nothing is read where a write has.
apart_by_read : (written before now : Bool) → (written ≡ true → now ≡ before) → written && before ≡ false → written && now ≡ false
apart_by_read true before now same h = same refl ∙ h
apart_by_read false before now same h = refl

-- Nothing is written where a read has, unless something is done behind it.
apart_by_write : {S K : Type 0} (old new : Recorded S K) (read : Bool) (xs : List Action) → old.read_failed ≡ read → new.read_failed ≡ old.read_failed → (xs ≡ [] → new ≡ old)
    → late read (done_all xs) ≡ false → old.write_failed && old.read_failed ≡ false → new.write_failed && new.read_failed ≡ false
apart_by_write old new false xs is same quiet l h = ap (λ b. new.write_failed && b) (same ∙ is) ∙ and_false new.write_failed
apart_by_write {S} {K} old new true [] is same quiet l h = ap {A = Recorded S K} (λ w. w.write_failed && w.read_failed) (quiet refl) ∙ h
apart_by_write old new true (x ∷ xs) is same quiet l h = cc

module _ {S K : Type 0} (took : S → List ℕ → S → Type 0) (took_none : (a : S) → took a [] a)
    (took_both : (a b c : S) (xs ys : List ℕ) → took a xs b → took b ys c → took a (xs ++ ys) c) (missed : S → S → Type 0) (source_faults : S → ℕ)
    (gained : K → List ℕ → K → Type 0) (gained_none : (a : K) → gained a [] a)
    (gained_both : (a b c : K) (xs ys : List ℕ) → gained a xs b → gained b ys c → gained a (xs ++ ys) c) (refused : K → K → Type 0) (sink_faults : K → ℕ) where
  pub Passed-none : (a : Recorded S K) → Passed took missed source_faults gained refused sink_faults a [] a
  Passed-none a = record {
    heard = HandedOut-none took took_none took_both missed source_faults a;
    done = Wrote-none gained gained_none gained_both refused sink_faults a;
    answered = refl;
    kept_addresses = refl;
    calm = λ none. (none, refl);
    over = λ e. e;
    apart = λ l h. h;
  }

  pub Passed-both : (a b c : Recorded S K) (g h : List Exchange) → Passed took missed source_faults gained refused sink_faults a g b → Passed took missed source_faults gained refused sink_faults b h c
      → Passed took missed source_faults gained refused sink_faults a (g ++ h) c
  Passed-both a b c g h p q = record {
    heard = subst (λ xs. HandedOut took missed source_faults a xs c) (sym (events-both g h)) (HandedOut-both took took_none took_both missed source_faults a b c (events_in g) (events_in h) p.heard q.heard);
    done = subst (λ xs. Wrote gained refused sink_faults a xs c) (sym (actions-both g h)) (Wrote-both gained gained_none gained_both refused sink_faults a b c (actions_in g) (actions_in h) p.done q.done);
    answered = q.answered ∙ ap (λ l. last_in l h) p.answered ∙ sym (last-both a.last g h);
    kept_addresses = q.kept_addresses ∙ ap (λ l. kept_in l h) p.kept_addresses ∙ sym (kept-both a.kept g h);
    calm = λ none.
        let then = q.calm none in
        let first = p.calm then.0 in
        (first.0, then.1 ∙ first.1);
    over = λ e. over-both a.read_failed g h ∙ over_by (over_after a.read_failed g) b.read_failed h p.over (q.over e);
    apart = λ l before.
        let parts = neither (late a.read_failed g) (late (over_after a.read_failed g) h) (sym (late-both a.read_failed g h) ∙ l) in
        q.apart (late_by (over_after a.read_failed g) b.read_failed h p.over parts.1) (p.apart parts.0 before);
  }

  -- Where a list was acted, that is all that passed.
  pub Acted-passed : (a b : Recorded S K) (xs : List Action) → Acted gained refused sink_faults a xs b → Passed took missed source_faults gained refused sink_faults a (done_all xs) b
  Acted-passed a b xs p =
      let read : b.read_failed ≡ a.read_failed = ap {A = Recorded S K} (λ w. w.read_failed) p.same in
      record {
        heard = subst (λ es. HandedOut took missed source_faults a es b) (sym (events-done xs)) (Acted-heard took took_none took_both missed source_faults gained refused sink_faults a b xs p);
        done = subst (λ as'. Wrote gained refused sink_faults a as' b) (sym (actions-done xs)) (Acted-wrote gained refused sink_faults a b xs p);
        answered = ap {A = Recorded S K} (λ w. w.last) p.same ∙ sym (last-done a.last xs);
        kept_addresses = ap {A = Recorded S K} (λ w. w.kept) p.same ∙ sym (kept-done a.kept xs);
        calm = λ none. (sym (Acted-faults gained refused sink_faults a b xs p) ∙ none, read);
        over = λ e. over_done a.read_failed xs ∙ sym read ∙ e;
        apart = apart_by_write a b a.read_failed xs refl read p.quiet;
      }

  -- A call of `listen` keeps its addresses, and changes nothing else.
  pub Passed-listen : (a : Recorded S K) (addr send_from : List ℕ)
      → Passed took missed source_faults gained refused sink_faults a (listened addr send_from true ∷ []) (record a { kept = Some (addr, send_from) })
  Passed-listen a addr send_from = record {
    heard = record {
      heard = ReadOff-none took took_none took_both a.source a.unread a.lines;
      fated = Fated-none took missed source_faults a.read_failed a.source;
      same_start = refl;
      stopped = no_change a.read_failed (SaysNoMore a.unread);
      stays = λ failed. (failed, refl);
    };
    done = Wrote-same gained gained_none gained_both refused sink_faults a a.source a.unread a.lines a.source_start a.read_failed a.faults a.last (Some (addr, send_from)) a.moment;
    answered = refl;
    kept_addresses = refl;
    calm = λ none. (none, refl);
    over = λ e. e;
    apart = λ l h. h;
  }

  -- A further event was read off what had been taken, or none.
  pub Passed-gathered : (old : Recorded S K) (unread : List ℕ) (lines : ℕ) (more : Bool) (e : Event) → ReadOff took old.source old.unread old.lines (events_in (gathered_by more e)) old.source unread lines
      → old.read_failed ≡ false → Passed took missed source_faults gained refused sink_faults old (gathered_by more e) (record old { unread = unread; lines = lines })
  Passed-gathered old unread lines more e read unfailed =
      let none : actions_in (gathered_by more e) ≡ [] = no_action more e in
      record {
        heard = record {
          heard = read;
          fated = Fated-none took missed source_faults old.read_failed old.source;
          same_start = refl;
          stopped = λ before now. absurd (false≢true (sym unfailed ∙ now));
          stays = λ failed. absurd (false≢true (sym unfailed ∙ failed));
        };
        done = subst (λ xs. Wrote gained refused sink_faults old xs (record old { unread = unread; lines = lines })) (sym none)
            (Wrote-same gained gained_none gained_both refused sink_faults old old.source unread lines old.source_start old.read_failed old.faults old.last old.kept old.moment);
        answered = sym (no_answer old.last more e);
        kept_addresses = sym (no_addresses old.kept more e);
        calm = λ none. (none, refl);
        over = λ failed. absurd (false≢true (sym unfailed ∙ failed));
        apart = λ l h. h;
      }

  -- A call of `next` hands out what was read, and keeps its answer.
  pub Passed-next : (old mid new : Recorded S K) (wake : Option ℕ) (a : Answer) (e : Event) → HandedOut took missed source_faults old (heard_by a e) mid
      → mid ≡ record old { source = mid.source; unread = mid.unread; lines = mid.lines; read_failed = mid.read_failed; moment = mid.moment }
      → new ≡ record mid { faults = count_heard a mid.faults; last = Some a }
      → IfFailed a (Unit {0}) (mid.read_failed ≡ old.read_failed)
      → (old.write_failed ≡ true → mid.read_failed ≡ old.read_failed)
      → Passed took missed source_faults gained refused sink_faults old (asked wake (answer_by a e) ∷ []) new
  Passed-next old mid new wake a e h same note calm unread =
      let P : Recorded S K → Type 0 = λ w. HandedOut took missed source_faults old (heard_by a e) w in
      let number : new.faults ≡ count_heard a old.faults =
      ap {A = Recorded S K} (λ w. w.faults) note ∙ ap {A = Recorded S K} (λ w. count_heard a w.faults) same in
      let handed : HandedOut took missed source_faults old (heard_by a e) new =
      subst P (sym note) (record { heard = h.heard; fated = h.fated; same_start = h.same_start; stopped = h.stopped; stays = h.stays }) in
      let read : new.read_failed ≡ mid.read_failed = ap {A = Recorded S K} (λ w. w.read_failed) note in
      let written : new.write_failed ≡ old.write_failed = ap {A = Recorded S K} (λ w. w.write_failed) note ∙ ap {A = Recorded S K} (λ w. w.write_failed) same in
      record {
        heard = subst (λ es. HandedOut took missed source_faults old es new) (events_asked wake a e) handed;
        done = Wrote-next gained gained_none gained_both refused sink_faults old mid new (count_heard a mid.faults) (Some a) same note;
        answered = ap {A = Recorded S K} (λ w. w.last) note ∙ ap (λ x. Some x) (answered_by a e);
        kept_addresses = ap {A = Recorded S K} (λ w. w.kept) note ∙ ap {A = Recorded S K} (λ w. w.kept) same;
        calm = λ none.
            let before = calm_by a old.faults (mid.read_failed ≡ old.read_failed) calm (sym number ∙ none) in
            (before.0, read ∙ before.1);
        over = λ f. over_by_answer a wake e old.read_failed mid.read_failed calm (sym read ∙ f);
        apart = λ l before.
            ap (λ b. b && new.read_failed) written ∙ ap (λ b. old.write_failed && b) read
            ∙ apart_by_read old.write_failed old.read_failed mid.read_failed unread before;
      }
