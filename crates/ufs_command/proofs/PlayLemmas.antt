-- What the endings of `play` tell.
use Rattle.std.specs.Prelude.{Bool}
use Rattle.std.proofs.Common.{◌≡◌, ℕ, ◌<◌, List, [], ◌++◌, length, Option, Some, None, Ok, Err, ◌⊎◌, inl, inr, ap, refl, sym, subst, ◌∙◌, arith}
use Rattle.std.proofs.lemmas.List.{append-nil}
use Rattle.std.specs.Io.KnownBytes.{Appends}
use Rattle.ufs_base.specs.Faults.{raised}
use Rattle.ufs_model.specs.History.{joined}
use Rattle.ufs_model.specs.declared.data.Entry.{Entry}
use Rattle.ufs_metadata.specs.declared.fault.RecoverFault.TheVariants as recover
use Rattle.ufs_brink.specs.Begins.{TellsNoSession}
use Rattle.ufs_engine.specs.Plays.{AreFaultsOf}
use Rattle.ufs_told.specs.Told.{HasRisen}
use Rattle.ufs_engine.proofs.EndLemmas.{rose_past}
use Rattle.ufs_image.specs.Proper.{IsProperImage}
use Rattle.ufs_image.specs.Volume as image
use Rattle.ufs_script.specs.Reading.{HasRead, LongerIsAlike}
use Rattle.ufs_script.specs.Script.{IsOutside, max_script}
use Rattle.ufs_script.specs.declared.script.Script.{Script}
use Rattle.ufs_script.specs.declared.fault.ScriptFault.{ScriptFault}
use Rattle.ufs_start.specs.declared.fault.StartFault.{StartFault}
use Rattle.ufs_start.specs.declared.fault.StartFault.TheVariants as start
use Rattle.ufs_command.specs.declared.ending.Ending.{Ending}
use Rattle.ufs_command.specs.declared.ending.Ending.TheVariants.{Done, Usage, BadGeometry, NotBuilt, BadScript, TooSmall, NoTree, DeviceFault, OutOfMemory, SourceFault, Damaged, Illegal}
use Rattle.ufs_print.specs.Printed.{session_lines, trace_part}
use Rattle.ufs_command.specs.Served.{EndsSession, IsSessionOf, TellsEnd, session_text}
use Rattle.ufs_command.specs.Seen.{Formatting, Reading, Writing}
use Rattle.ufs_command.specs.Texts.{break_line, device_line}
use Rattle.ufs_command.specs.Endings.{EndsPlay, EndsServing, EndsUnread, IsAnswer, TellsNoStart, sink_status, start_ending, status_of}
use Rattle.ufs_command.specs.Told.{TellsPlay}
use Rattle.ufs_command.specs.Unscheduled.{BreaksUnscheduled, ReadsUnscheduled, unscheduled, unscheduled_of}
use Rattle.ufs_command.proofs.ProperLemmas.{proper_opens}

-- ---- the text that was read, of a visible source

by_rest : LongerIsAlike → (text read rest : List ℕ) → text ≡ read ++ rest → (rest ≡ []) ⊎ (max_script < length read) → unscheduled_of read ≡ unscheduled_of text
by_rest alike text read rest is (inl none) = ap unscheduled_of (sym (append-nil read) ∙ ap (λ l. read ++ l) (sym none) ∙ sym is)
by_rest alike text read rest is (inr long) = ap unscheduled (sym (alike read rest long)) ∙ ap unscheduled_of (sym is)

-- a text that was read to its end or past the greatest length answers as the whole text does
pub read_alike : LongerIsAlike → (text read : List ℕ) (new : Option (List ℕ)) → HasRead (Some text) new read → unscheduled_of read ≡ unscheduled_of text
read_alike alike text read None has = absurd has.taken
read_alike alike text read (Some rest) has = by_rest alike text read rest has.taken has.ended

-- ---- by the status

abbrev IsWhole : Bool → Reading → Formatting → List (List Entry) → List ℕ → Type 0
IsWhole trace r d told text = (script : Script) × ReadsUnscheduled r.left r.rest script × IsSessionOf d script told × EndsSession d told (Ok tt) × (text ≡ session_lines trace (joined told))

abbrev IsStopped : Bool → Reading → Formatting → List (List Entry) → List ℕ → Type 0
IsStopped trace r d told text = ((told ≡ []) × (d.now ≡ raised d.before) × (text ≡ device_line d.now))
    ⊎ ((script : Script) × ReadsUnscheduled r.left r.rest script × IsSessionOf d script told × (fault : ℕ) × TellsEnd d told fault × (text ≡ session_lines trace (joined told) ++ device_line fault))

abbrev IsBroken : Reading → List ℕ → Type 0
IsBroken r text = (f : ScriptFault) × BreaksUnscheduled r.left r.rest f × (¬ IsOutside f) × (text ≡ break_line f)

-- there is a script
abbrev IsRead : Reading → Type 0
IsRead r = (script : Script) × ReadsUnscheduled r.left r.rest script

-- each status with what it says of the text
data ByStatus (trace : Bool) (r : Reading) (d : Formatting) (told : List (List Entry)) (status : ℕ) (text : List ℕ) : Type 0 where
  whole : status ≡ 0 → IsWhole trace r d told text → ByStatus trace r d told status text
  unbegun : status ≡ 3 → IsRead r → told ≡ [] → TellsNoStart d text → ByStatus trace r d told status text
  stopped : status ≡ 4 → IsRead r → IsStopped trace r d told text → ByStatus trace r d told status text
  starved : status ≡ 5 → ByStatus trace r d told status text
  broken : status ≡ 2 → told ≡ [] → IsBroken r text → ByStatus trace r d told status text
  unread : status ≡ 6 → r.now ≡ raised r.before → ByStatus trace r d told status text

module _ (trace : Bool) (r : Reading) (d : Formatting) (told : List (List Entry)) (status : ℕ) where
  unread_by : told ≡ [] → (ending : Ending) (text : List ℕ) → status ≡ status_of ending → EndsUnread r ending text → ByStatus trace r d told status text
  unread_by none Done text is e = absurd e
  unread_by none Usage text is e = absurd e
  unread_by none (BadGeometry bad) text is e = absurd e
  unread_by none NotBuilt text is e = absurd e
  unread_by none BadScript text is e = broken is none e
  unread_by none TooSmall text is e = absurd e
  unread_by none NoTree text is e = absurd e
  unread_by none DeviceFault text is e = absurd e
  unread_by none OutOfMemory text is e = starved is
  unread_by none SourceFault text is e = unread is e.0
  unread_by none Damaged text is e = absurd e
  unread_by none Illegal text is e = absurd e

  stopped_by : (script : Script) → ReadsUnscheduled r.left r.rest script → (text : List ℕ) → EndsServing trace d script told DeviceFault text → IsStopped trace r d told text
  stopped_by script read text (inl e) = inl e
  stopped_by script read text (inr e) = inr (script, read, e.0, e.1, e.2, e.3)

  served_by : (script : Script) → ReadsUnscheduled r.left r.rest script → (ending : Ending) (text : List ℕ) → status ≡ status_of ending → EndsServing trace d script told ending text → ByStatus trace r d told status text
  served_by script read Done text is e = whole is (script, read, e.0, e.1, e.2)
  served_by script read Usage text is e = absurd e
  served_by script read (BadGeometry bad) text is e = absurd e
  served_by script read NotBuilt text is e = absurd e
  served_by script read BadScript text is e = absurd e
  served_by script read TooSmall text is e = absurd e
  served_by script read NoTree text is e = unbegun is (script, read) e.0 e.2
  served_by script read DeviceFault text is e = stopped is (script, read) (stopped_by script read text e)
  served_by script read OutOfMemory text is e = starved is
  served_by script read SourceFault text is e = absurd e
  served_by script read Damaged text is e = absurd e
  served_by script read Illegal text is e = absurd e

  by_status : (ending : Ending) (text : List ℕ) → status ≡ status_of ending → EndsPlay trace r d told ending text → ByStatus trace r d told status text
  by_status ending text is (inl e) = unread_by e.0 ending text is e.1
  by_status ending text is (inr e) = served_by e.0 e.1 ending text is e.2

  -- ---- what a status says

  module _ (text : List ℕ) where
    whole_of : status ≡ 0 → ByStatus trace r d told status text → IsWhole trace r d told text
    whole_of zero (whole is e) = e
    whole_of zero (unbegun is read none e) = absurd (omega (arith, zero, is))
    whole_of zero (stopped is read e) = absurd (omega (arith, zero, is))
    whole_of zero (starved is) = absurd (omega (arith, zero, is))
    whole_of zero (broken is none e) = absurd (omega (arith, zero, is))
    whole_of zero (unread is e) = absurd (omega (arith, zero, is))

    unbegun_of : status ≡ 3 → ByStatus trace r d told status text → (told ≡ []) × TellsNoStart d text
    unbegun_of three (whole is e) = absurd (omega (arith, three, is))
    unbegun_of three (unbegun is read none e) = (none, e)
    unbegun_of three (stopped is read e) = absurd (omega (arith, three, is))
    unbegun_of three (starved is) = absurd (omega (arith, three, is))
    unbegun_of three (broken is none e) = absurd (omega (arith, three, is))
    unbegun_of three (unread is e) = absurd (omega (arith, three, is))

    stopped_of : status ≡ 4 → ByStatus trace r d told status text → IsStopped trace r d told text
    stopped_of four (whole is e) = absurd (omega (arith, four, is))
    stopped_of four (unbegun is read none e) = absurd (omega (arith, four, is))
    stopped_of four (stopped is read e) = e
    stopped_of four (starved is) = absurd (omega (arith, four, is))
    stopped_of four (broken is none e) = absurd (omega (arith, four, is))
    stopped_of four (unread is e) = absurd (omega (arith, four, is))

-- ---- a count that stays

-- a count that is raised has risen
pub raised_risen : (before now : ℕ) → now ≡ raised before → HasRisen before now now
raised_risen before now rose = rose_past before before now now (omega arith) (record { rose = rose; number = refl })

-- a session that tells a fault has raised the disk's count
pub end_risen : (d : Formatting) (told : List (List Entry)) (fault : ℕ) → TellsEnd d told fault → HasRisen d.before d.now fault
end_risen d told fault (inl e) = e.risen
end_risen d told fault (inr e) = e.risen

never_stopped : (trace : Bool) (r : Reading) (d : Formatting) (told : List (List Entry)) (text : List ℕ) → ((fault : ℕ) → HasRisen d.before d.now fault → ⊥) → IsStopped trace r d told text → ⊥
never_stopped trace r d told text quiet (inl e) = quiet d.now (raised_risen d.before d.now e.1)
never_stopped trace r d told text quiet (inr e) = quiet e.3 (end_risen d told e.3 e.4)

-- ---- of a visible source

module _ (trace : Bool) (alike : LongerIsAlike) (text : List ℕ) (r : Reading) (left : r.left ≡ Some text) (calm : r.now ≡ raised r.before → ⊥) (d : Formatting) (told : List (List Entry)) (status : ℕ) where
  alike_read : (read : List ℕ) → HasRead r.left r.rest read → unscheduled_of read ≡ unscheduled_of text
  alike_read read has = read_alike alike text read r.rest (subst (λ (o : Option (List ℕ)). HasRead o r.rest read) left has)

  not_broken : (script : Script) (out : List ℕ) → unscheduled_of text ≡ Ok script → IsBroken r out → ⊥
  not_broken script out is e = let both : Ok script ≡ Err e.0 = sym is ∙ sym (alike_read e.1.0 e.1.1) ∙ e.1.2 in cc

  not_read : (f : ScriptFault) → unscheduled_of text ≡ Err f → IsRead r → ⊥
  not_read f is e = let both : Ok e.0 ≡ Err f = sym e.1.2 ∙ alike_read e.1.0 e.1.1 ∙ is in cc

  -- a script is served, or no session begins, or memory runs out
  complete_by : (script : Script) → unscheduled_of text ≡ Ok script → ((fault : ℕ) → HasRisen d.before d.now fault → ⊥) → (out : List ℕ) → ByStatus trace r d told status out → (status ≡ 0) ⊎ ((status ≡ 3) ⊎ (status ≡ 5))
  complete_by script is quiet out (whole at e) = inl at
  complete_by script is quiet out (unbegun at read none e) = inr (inl at)
  complete_by script is quiet out (stopped at read e) = absurd (never_stopped trace r d told out quiet e)
  complete_by script is quiet out (starved at) = inr (inr at)
  complete_by script is quiet out (broken at none e) = absurd (not_broken script out is e)
  complete_by script is quiet out (unread at e) = absurd (calm e)

  -- a text that is no script is told with its first break, or memory runs out
  broken_by : (f : ScriptFault) → unscheduled_of text ≡ Err f → (held holds : Option (List ℕ)) (out : List ℕ) → Appends held holds out → ByStatus trace r d told status out
      → ((status ≡ 2) × (told ≡ []) × Appends held holds (break_line f)) ⊎ (status ≡ 5)
  broken_by f is held holds out a (whole at e) = absurd (not_read f is (e.0, e.1))
  broken_by f is held holds out a (unbegun at read none e) = absurd (not_read f is read)
  broken_by f is held holds out a (stopped at read e) = absurd (not_read f is read)
  broken_by f is held holds out a (starved at) = inr at
  broken_by f is held holds out a (broken at none e) =
      let both : Err e.0 ≡ Err f = sym e.1.2 ∙ alike_read e.1.0 e.1.1 ∙ is in
      let same : e.0 ≡ f = cc in
      inl (at, none, subst (Appends held holds) (e.3 ∙ ap break_line same) a)
  broken_by f is held holds out a (unread at e) = absurd (calm e)

-- ---- a proper image

-- A session begins with it, unless a call of the disk fails or memory runs out.
pub begun_there : (d : Formatting) → IsProperImage d.sectors d.image → (fault : StartFault) → start_ending fault ≡ NoTree → TellsNoSession d.sectors d.image fault → ⊥
begun_there d proper (start.Image recover.NoSuperblock) is why = proper_opens d.sectors d.image proper image.NoSuperblock why
begun_there d proper (start.Image (recover.BadVersion found)) is why = proper_opens d.sectors d.image proper (image.BadVersion found) why
begun_there d proper (start.Image (recover.BadGeometry number)) is why = proper_opens d.sectors d.image proper (image.BadGeometry number) why
begun_there d proper (start.Image (recover.BadRecord sector)) is why = proper_opens d.sectors d.image proper (image.BadRecord sector) why
begun_there d proper (start.Image (recover.BadTree inode)) is why = proper_opens d.sectors d.image proper (image.BadTree inode) why
begun_there d proper (start.Image (recover.Device fault)) is why = let no : DeviceFault ≡ NoTree = is in cc
begun_there d proper (start.Image (recover.Lack _)) is why = let no : OutOfMemory ≡ NoTree = is in cc
begun_there d proper (start.Unreached inode) is none = absurd none
begun_there d proper (start.Unnamed inode) is none = absurd none
begun_there d proper (start.ExtraBlocks inode) is none = absurd none

-- ---- of the whole answer

module _ (trace : Bool) (r : Reading) (d : Formatting) (told : List (List Entry)) (w : Writing) (status : ℕ) (a : IsAnswer (EndsPlay trace r d told) w status) where
  seen : (status ≡ sink_status → ⊥) → (text : List ℕ) × ByStatus trace r d told status text × Appends w.held w.holds text
  seen other = let x = a.whole other in (x.1, by_status trace r d told status x.0 x.1 x.2 x.3, x.4)

  stopped_got : (text : List ℕ) → Appends w.held w.holds text → IsStopped trace r d told text
      → ((told ≡ []) × (d.now ≡ raised d.before) × Appends w.held w.holds (device_line d.now))
      ⊎ ((script : Script) × ReadsUnscheduled r.left r.rest script × IsSessionOf d script told × (fault : ℕ) × TellsEnd d told fault × Appends w.held w.holds (session_text trace script (joined told) ++ device_line fault))
  stopped_got text got (inl e) = inl (e.0, e.1, subst (Appends w.held w.holds) e.2 got)
  stopped_got text got (inr e) = inr (e.0, e.1, e.2, e.3, e.4, subst (Appends w.held w.holds) (e.5 ∙ ap (λ (l : List ℕ). (l ++ trace_part trace (joined told)) ++ device_line e.3) e.2.lines) got)

  pub play_told : LongerIsAlike → AreFaultsOf d.before d.now (joined told) → TellsPlay trace r d told w status
  play_told alike faults = record {
    done = λ zero.
        let x = seen (λ e. cc) in
        let e = whole_of trace r d told status x.0 zero x.1 in
        (e.0, e.1, e.2, e.3, subst (Appends w.held w.holds) (e.4 ∙ ap (λ (l : List ℕ). l ++ trace_part trace (joined told)) e.2.lines) x.2);
    no_start = λ three.
        let x = seen (λ e. cc) in
        let e = unbegun_of trace r d told status x.0 three x.1 in
        (e.0, (x.0, e.1, x.2));
    proper = λ may three.
        let x = seen (λ e. cc) in
        let none = (unbegun_of trace r d told status x.0 three x.1).1 in
        begun_there d (subst (IsProperImage d.sectors) (sym d.read) may.proper.proper) none.fault none.ending_is (none.why may);
    closing = λ four. let x = seen (λ e. cc) in stopped_got x.0 x.2 (stopped_of trace r d told status x.0 four x.1);
    faults = faults;
    complete = λ text script left is calm quiet.
        let x = seen (λ s. quiet.sink (a.rose s)) in
        complete_by trace alike text r left calm d told status script is quiet.disk x.0 x.1;
    broken = λ text f left is calm quiet.
        let x = seen (λ s. quiet (a.rose s)) in
        broken_by trace alike text r left calm d told status f is w.held w.holds x.0 x.2 x.1;
  }
