-- How a session that was played ends, and what it leaves.
use Rattle.std.proofs.Common.{◌≡◌, ◌⊎◌, inl, inr, ℕ, List, [], length, Result, Ok, Err, ap, sym, subst, refl, ◌∙◌}
use Rattle.std.specs.Prelude.{IsTrue}
use Rattle.ufs_base.specs.declared.lack.Lack.{Lack}
use Rattle.ufs_brink.specs.Begins.{BeginsWith, HasNothingOpen, TellsNoSession}
use Rattle.ufs_metadata.specs.Faults.{IsWhyNot}
use Rattle.ufs_metadata.specs.declared.fault.RecoverFault.{RecoverFault}
use Rattle.ufs_metadata.specs.declared.fault.RecoverFault.TheVariants as recover
use Rattle.ufs_image.specs.Opens.{opens}
use Rattle.ufs_image.specs.Volume.{Refusal}
use Rattle.ufs_image.specs.Volume as image
use Rattle.ufs_model.specs.History.{joined}
use Rattle.ufs_model.specs.PosixTree.{PosixTree}
use Rattle.ufs_model.specs.declared.data.Entry.{Entry}
use Rattle.ufs_opening.specs.Told.{TellsWhy}
use Rattle.ufs_engine.specs.Plays.{ArePlayedFrom, IsEndFault, MayPlay, served_end}
use Rattle.ufs_engine.specs.declared.playing.PlayFault.{PlayFault}
use Rattle.ufs_engine.specs.declared.playing.PlayFault.TheVariants as ended
use Rattle.ufs_script.specs.declared.script.Script.{Script}
use Rattle.ufs_start.specs.Refused.{HasStartCause}
use Rattle.ufs_start.specs.declared.fault.StartFault.{StartFault}
use Rattle.ufs_start.specs.declared.fault.StartFault.TheVariants as start
use Rattle.ufs_command.specs.declared.ending.Ending.{Ending}
use Rattle.ufs_command.specs.declared.ending.Ending.TheVariants.{Done, Usage, BadGeometry, NotBuilt, BadScript, TooSmall, NoTree, DeviceFault, OutOfMemory, SourceFault, Damaged, Illegal}
use Rattle.ufs_command.specs.Seen.{Formatting}
use Rattle.ufs_command.specs.Served.{IsCutSessionOf, IsSessionOf, TellsEnd}
use Rattle.ufs_command.specs.Texts.{device_line}
use Rattle.ufs_print.specs.TreeLines.{refusal_line}
use Rattle.ufs_command.specs.Endings.{EndsBehind, EndsPlayed, EndsPrinting, EndsServed, TellsNoStart, ending_of, line_of, start_ending, start_line}
use Rattle.ufs_command.proofs.TranscriptLemmas.{output_is}

-- what is known of a session that was played, and of the disk's counts
pub record HasPlayed (d : Formatting) (script : Script) (told : List (List Entry)) (result : Result (Unit {0}) PlayFault) : Type 0 where
  pub legal : (begun : PosixTree) × HasNothingOpen begun × ArePlayedFrom begun script.clients told result
  pub refused : (fault : StartFault) → result ≡ Err (ended.Image fault) → told ≡ []
  pub opening : (fault : StartFault) → result ≡ Err (ended.Image fault) → HasStartCause d.before d.now fault
  pub closing : IsEndFault d.before d.now (joined told) result
  pub played : MayPlay d.visible d.sectors d.state → (begun : PosixTree) → BeginsWith d.sectors d.image begun → ArePlayedFrom begun script.clients told result
  pub opened : MayPlay d.visible d.sectors d.state → (begun : PosixTree) × BeginsWith d.sectors d.image begun
  pub why : MayPlay d.visible d.sectors d.state → (fault : StartFault) → result ≡ Err (ended.Image fault) → TellsNoSession d.sectors d.image fault
  pub unopened : IsTrue d.visible → (refusal : Refusal) → opens d.sectors d.image ≡ Err refusal
      → ((w : Lack) × (result ≡ Err (ended.Lack w))) ⊎ ((fault : RecoverFault) × (result ≡ Err (ended.Image (start.Image fault))) × TellsWhy d.sectors d.image fault)

same_line : {X : Type 0} (given : Result X Refusal) (a b : Refusal) → given ≡ Err a → given ≡ Err b → refusal_line a ≡ refusal_line b
same_line given a b is was = let both : Err a ≡ Err b = sym is ∙ was in let same : a ≡ b = cc in ap refusal_line same

-- the cause for which an image stands for no tree is told
told_why : {X : Type 0} (given : Result X Refusal) (f : RecoverFault) → IsWhyNot given f → (refusal : Refusal) → given ≡ Err refusal → ending_of f ≡ NoTree → line_of f ≡ refusal_line refusal
told_why given recover.NoSuperblock why refusal is none = same_line given image.NoSuperblock refusal why is
told_why given (recover.BadVersion found) why refusal is none = same_line given (image.BadVersion found) refusal why is
told_why given (recover.BadGeometry number) why refusal is none = same_line given (image.BadGeometry number) refusal why is
told_why given (recover.BadRecord sector) why refusal is none = same_line given (image.BadRecord sector) refusal why is
told_why given (recover.BadTree inode) why refusal is none = same_line given (image.BadTree inode) refusal why is
told_why given (recover.Device fault) why refusal is none = cc
told_why given (recover.Lack _) why refusal is none = cc

-- ---- how it ends

module _ (d : Formatting) (script : Script) (told : List (List Entry)) where
  cut_session : (result : Result (Unit {0}) PlayFault) → HasPlayed d script told result → IsCutSessionOf d script told
  cut_session result h = record {
    any = let p = h.legal in (p.0, p.1, record { legal = p.2.legal; ordered = p.2.ordered; servers = p.2.servers });
    opened = h.opened;
    begun = λ may begun with. let p = h.played may begun with in record { legal = p.legal; ordered = p.ordered; servers = p.servers };
  }

  pub session : (result : Result (Unit {0}) PlayFault) → served_end result ≡ Ok tt → HasPlayed d script told result → IsSessionOf d script told
  session result well h = record {
    history_is = record {
      any = let p = h.legal in (p.0, p.1, record { legal = p.2.legal; ordered = p.2.ordered; servers = p.2.servers; complete = p.2.complete well });
      opened = h.opened;
      begun = λ may begun with. let p = h.played may begun with in record { legal = p.legal; ordered = p.ordered; servers = p.servers; complete = p.complete well };
    };
    lines = let p = h.legal.2 in output_is told (joined told) (length script.clients) p.merged (p.each well);
  }

-- `Whole` is what is known of a session that is whole.
module _ (Whole : Type 0) (printed : List ℕ) (d : Formatting) (script : Script) (told : List (List Entry)) where
  -- none began
  abbrev Cause : StartFault → Type 0
  Cause fault = IsTrue d.visible → (refusal : Refusal) → opens d.sectors d.image ≡ Err refusal → (f : RecoverFault) × (start.Image f ≡ fault) × TellsWhy d.sectors d.image f

  abbrev Why : StartFault → Type 0
  Why fault = MayPlay d.visible d.sectors d.state → TellsNoSession d.sectors d.image fault

  no_start : (fault : StartFault) → start_ending fault ≡ NoTree → Why fault → Cause fault → TellsNoStart d (start_line fault)
  no_start fault is why cause = record {
    fault = fault;
    ending_is = is;
    text_is = refl;
    why = why;
    refused = λ visible refusal none.
        let x = cause visible refusal none in
        ap start_line (sym x.1) ∙ told_why (opens d.sectors d.image) x.0 x.2 refusal none (ap start_ending x.1 ∙ is);
  }

  unbegun : (fault : StartFault) → told ≡ [] → HasStartCause d.before d.now fault → Why fault → Cause fault → IsCutSessionOf d script told → EndsServed Whole printed d script told (start_ending fault) (start_line fault)
  unbegun (start.Image recover.NoSuperblock) none count why cause cut = (none, count, no_start (start.Image recover.NoSuperblock) refl why cause)
  unbegun (start.Image (recover.BadVersion found)) none count why cause cut = (none, count, no_start (start.Image (recover.BadVersion found)) refl why cause)
  unbegun (start.Image (recover.BadGeometry number)) none count why cause cut = (none, count, no_start (start.Image (recover.BadGeometry number)) refl why cause)
  unbegun (start.Image (recover.BadRecord sector)) none count why cause cut = (none, count, no_start (start.Image (recover.BadRecord sector)) refl why cause)
  unbegun (start.Image (recover.BadTree inode)) none count why cause cut = (none, count, no_start (start.Image (recover.BadTree inode)) refl why cause)
  unbegun (start.Image (recover.Device fault)) none count why cause cut = inl (none, count.rose, ap device_line count.number)
  unbegun (start.Image (recover.Lack _)) none count why cause cut = inl (cut, refl)
  unbegun (start.Unreached inode) none count why cause cut = (none, count, no_start (start.Unreached inode) refl why cause)
  unbegun (start.Unnamed inode) none count why cause cut = (none, count, no_start (start.Unnamed inode) refl why cause)
  unbegun (start.ExtraBlocks inode) none count why cause cut = (none, count, no_start (start.ExtraBlocks inode) refl why cause)

  cause_of : (fault : StartFault) → HasPlayed d script told (Err (ended.Image fault)) → Cause fault
  cause_of fault h visible refusal none = elim (h.unopened visible refusal none) [ inl lacks ↦ (let clash = lacks.1 in absurd cc) | inr x ↦ (x.0, cc, x.2) ]

  -- each request was answered
  well_ended : Whole → HasPlayed d script told (Ok tt) → (ending : Ending) (text : List ℕ) → EndsPrinting printed ending text → EndsServed Whole printed d script told ending text
  well_ended of h Done text e = (of, h.closing, e)
  well_ended of h Usage text e = absurd e
  well_ended of h (BadGeometry bad) text e = absurd e
  well_ended of h NotBuilt text e = absurd e
  well_ended of h BadScript text e = absurd e
  well_ended of h TooSmall text e = absurd e
  well_ended of h NoTree text e = absurd e
  well_ended of h DeviceFault text e = absurd e
  well_ended of h OutOfMemory text e = inr (of, e.0, e.1, e.2)
  well_ended of h SourceFault text e = absurd e
  well_ended of h Damaged text e = absurd e
  well_ended of h Illegal text e = absurd e

  -- a call of the disk failed, in the session or behind it
  fault_ended : (fault : ℕ) → Whole → TellsEnd d told fault → (ending : Ending) (text : List ℕ) → EndsBehind printed fault ending text → EndsServed Whole printed d script told ending text
  fault_ended fault of tells Done text e = absurd e
  fault_ended fault of tells Usage text e = absurd e
  fault_ended fault of tells (BadGeometry bad) text e = absurd e
  fault_ended fault of tells NotBuilt text e = absurd e
  fault_ended fault of tells BadScript text e = absurd e
  fault_ended fault of tells TooSmall text e = absurd e
  fault_ended fault of tells NoTree text e = absurd e
  fault_ended fault of tells DeviceFault text e = inr (of, fault, tells, e)
  fault_ended fault of tells OutOfMemory text e = inr (of, e.0, e.1, e.2)
  fault_ended fault of tells SourceFault text e = absurd e
  fault_ended fault of tells Damaged text e = absurd e
  fault_ended fault of tells Illegal text e = absurd e

  pub played_ends : (result : Result (Unit {0}) PlayFault) → HasPlayed d script told result → (served_end result ≡ Ok tt → Whole) → (ending : Ending) (text : List ℕ) → EndsPlayed result printed ending text → EndsServed Whole printed d script told ending text
  played_ends (Ok x) h whole ending text e = well_ended (whole refl) h ending text e
  played_ends (Err (ended.Image fault)) h whole ending text e =
      subst (λ (x : Ending). EndsServed Whole printed d script told x text) (sym e.0)
      (subst (EndsServed Whole printed d script told (start_ending fault)) (sym e.1) (unbegun fault (h.refused fault refl) (h.opening fault refl) (λ may. h.why may fault refl) (cause_of fault h) (cut_session d script told (Err (ended.Image fault)) h)))
  played_ends (Err (ended.Device fault)) h whole ending text e = fault_ended fault (whole refl) (inl h.closing) ending text e
  played_ends (Err (ended.Stopped fault)) h whole ending text e = fault_ended fault (whole refl) (inr h.closing) ending text e
  played_ends (Err (ended.Lack w)) h whole ending text e = subst (λ (x : Ending). EndsServed Whole printed d script told x text) (sym e.0) (inl (cut_session d script told (Err (ended.Lack w)) h, e.1))
