-- What commands leave, by the command that the words are.
use Rattle.std.proofs.Common.{◌≡◌, ◌∙◌, inl, inr, ℕ, List, [], true, false, Option, Some, ap, sym, subst, refl, arith}
use Rattle.std.specs.Prelude.{◌≢◌, Bool}
use Rattle.ufs_disk.specs.Disk.{Leaves}
use Rattle.ufs_disk.specs.Moments.{Moments}
use Rattle.ufs_disk.proofs.Runs.{stays}
use Rattle.ufs_image.specs.Proper.{IsProperImage}
use Rattle.ufs_ledger.specs.Kept.{OpensExplained}
use Rattle.ufs_model.specs.History.{joined}
use Rattle.ufs_model.specs.PosixTree.{PosixTree}
use Rattle.ufs_model.specs.declared.data.Entry.{Entry}
use Rattle.ufs_engine.specs.Plays.{AreFaultsOf, IsStampedThroughout}
use Rattle.ufs_engine.proofs.EndLemmas.{no_faults}
use Rattle.ufs_engine.proofs.StampedLemmas.{none_stamped}
use Rattle.ufs_recovery.specs.Recovered.{IsProperDisk}
use Rattle.ufs_script.specs.declared.fault.ScriptFault.{ScriptFault}
use Rattle.ufs_told.specs.Throughout.{IsExplainedThroughout}
use Rattle.ufs_told.specs.Told.{IsCountStill, devices_in}
use Rattle.ufs_promise_laws.specs.OnDisk.{IsExplainedBetween, IsExplainedImage}
use Rattle.ufs_command.specs.declared.ending.Ending.{Ending}
use Rattle.ufs_command.specs.declared.words.Command.{Command}
use Rattle.ufs_command.specs.declared.words.Command.TheVariants as command
use Rattle.ufs_command.specs.Commands.{reads_source, serves}
use Rattle.ufs_command.specs.Laws.{StandsAsBegun}
use Rattle.ufs_command.specs.Endings.{IsAnswer, TellsFault, status_of}
use Rattle.ufs_command.specs.Seen.{Course, Reading, Writing}
use Rattle.ufs_command.specs.Left.{ActsOn, Benches, LeavesDisk, LeavesSource, Plays}

-- of the command that the words are
pub disk_left : {D : Type 0} (words own : Option Command) (is : words ≡ own) (lists : List (List Entry)) (status : ℕ) (c : Course D) → ActsOn own lists status c → c.sectors_now ≡ c.sectors → (status ≢ 4 → status ≢ 7 → c.now ≡ c.before) → LeavesDisk words lists status c
disk_left words own is lists status c acts size told = record {
  acts = subst (λ (o : Option Command). ActsOn o lists status c) (sym is) acts;
  size = size;
  told = λ other. told;
  played = λ play four seven five silent. inl (told four seven);
}

-- of `play`
pub played_left : {D : Type 0} (words : Option Command) (trace : Bool) (is : words ≡ Some (command.Play trace)) (lists : List (List Entry)) (status : ℕ) (c : Course D) → Plays lists status c → c.sectors_now ≡ c.sectors → (status ≢ 4 → status ≢ 7 → status ≢ 5 → devices_in (joined lists) ≡ [] → IsCountStill c.before c.now) → LeavesDisk words lists status c
played_left words trace is lists status c acts size told = record {
  acts = subst (λ (o : Option Command). ActsOn o lists status c) (sym is) acts;
  size = size;
  told = λ other. absurd (let played : true ≡ false = sym (ap serves is) ∙ other in cc);
  played = λ play. told;
}

-- of `bench`
pub bench_left : {D : Type 0} (words : Option Command) (seed : ℕ) (is : words ≡ Some (command.Bench seed)) (lists : List (List Entry)) (status : ℕ) (c : Course D) → Benches lists status c → c.sectors_now ≡ c.sectors → (status ≢ 4 → status ≢ 7 → status ≢ 5 → devices_in (joined lists) ≡ [] → IsCountStill c.before c.now) → LeavesDisk words lists status c
bench_left words seed is lists status c acts size told = record {
  acts = subst (λ (o : Option Command). ActsOn o lists status c) (sym is) acts;
  size = size;
  told = λ other. absurd (let served : true ≡ false = sym (ap serves is) ∙ other in cc);
  played = λ serves. told;
}

-- a source that isn't read
pub source_left : (words : Option Command) (status : ℕ) (left : Option (List ℕ)) (count : ℕ) → LeavesSource words status (record { left = left; rest = left; before = count; now = count })
source_left words status left count = record { told = λ a b. refl; unread = λ other. (refl, refl) }

-- one that is
pub source_read : (words : Option Command) → reads_source words ≡ true → (status : ℕ) (r : Reading) → (status ≢ 6 → status ≢ 7 → r.now ≡ r.before) → LeavesSource words status r
source_read words reads status r told = record { told = told; unread = λ other. absurd (let read : true ≡ false = sym reads ∙ other in cc) }

-- ---- where nobody is served

pub none_faults : (before now : ℕ) (told : List (List Entry)) → told ≡ [] → AreFaultsOf before now (joined told)
none_faults before now told none = subst (λ (l : List (List Entry)). AreFaultsOf before now (joined l)) (sym none) (no_faults before now)

-- what isn't served hasn't status 0
unread_status : (f : ScriptFault) (ending : Ending) (text : List ℕ) → TellsFault f ending text → status_of ending ≡ 0 → ⊥
unread_status f ending text (inl e) zero = let is : status_of ending ≡ 5 = ap status_of e.1.0 in omega (arith, zero, is)
unread_status f ending text (inr (inl e)) zero = let is : status_of ending ≡ 6 = ap status_of e.1.0 in omega (arith, zero, is)
unread_status f ending text (inr (inr (read, inl e))) zero = let is : status_of ending ≡ 2 = ap status_of e.0 in omega (arith, zero, is)
unread_status f ending text (inr (inr (read, inr e))) zero = let is : status_of ending ≡ 5 = ap status_of e.0 in omega (arith, zero, is)

pub never_done : (f : ScriptFault) (w : Writing) (status : ℕ) → IsAnswer (TellsFault f) w status → status ≡ 0 → ⊥
never_done f w status a zero = let x = a.whole (λ e. cc) in unread_status f x.0 x.1 x.3 (sym x.2 ∙ zero)

-- a disk that is left as it was
pub unread_left : {D : Type 0} (c : Course D) (told : List (List Entry)) (status : ℕ) → StandsAsBegun c.sectors → told ≡ [] → c.new ≡ c.old → c.to ≡ c.from → (status ≡ 0 → ⊥) → Plays told status c
unread_left c told status stands none untouched same other = record {
  crash = λ may begun with. subst (λ (l : List (List Entry)). Leaves (OpensExplained c.sectors begun (joined l)) c.to.state) (sym none)
      (subst (λ (m : Moments). Leaves (OpensExplained c.sectors begun []) m.state) (sym same) (stands c.from.state begun may.proper with));
  proper = λ may. subst (λ (m : Moments). Leaves (IsProperImage c.sectors) m.state) (sym same)
      (λ image is. subst (IsProperImage c.sectors) (sym (may.proper.settled image is)) may.proper.proper);
  always = λ may begun with. subst (λ (l : List (List Entry)). IsExplainedThroughout c.keeps c.sectors begun [] (joined l) c.from c.to) (sym none)
      (as_begun begun (stands c.from.state begun may.proper with) may.proper);
  stamped = λ kept may begun with. subst (λ (l : List (List Entry)). IsStampedThroughout c.keeps c.sectors begun (joined l) c.from c.to) (sym none)
      (none_stamped c.keeps c.sectors begun c.from c.to (as_begun begun (stands c.from.state begun may.proper with) may.proper));
  clean = λ may zero. absurd (other zero);
  last = λ may begun with zero. absurd (other zero);
  numbers = λ may zero. absurd (other zero);
  unserved = λ visible refusal is. none;
  undone = λ visible refusal is. other;
  broken = λ two. untouched;
  unread = λ six. untouched;
}
  where
    as_begun : (begun : PosixTree) → Leaves (OpensExplained c.sectors begun []) c.from.state → IsProperDisk c.sectors c.from.state → IsExplainedBetween c.keeps c.sectors begun [] c.from c.to
    as_begun begun explained is = stays c.keeps (IsExplainedImage c.sectors begun []) c.from c.to same
        (λ image left. record { explained = explained image left; proper = subst (IsProperImage c.sectors) (sym (is.settled image left)) is.proper })
