-- What the endings of `bench` tell.
use Rattle.std.proofs.Common.{◌≡◌, ◌≢◌, ℕ, ◌<◌, ◌≤◌, List, [], ◌∷◌, ◌++◌, Bool, true, false, Result, Ok, Err, ◌⊎◌, inl, inr, ap, refl, sym, subst, ◌∙◌, arith, map}
use Rattle.std.specs.Prelude.{IsTrue, None, Some}
use Rattle.std.specs.FinMap.{entries, from_entries, get-empty}
use Rattle.ufs_model.proofs.Facts.Rising.{entries-rising}
use Rattle.std.specs.Io.KnownBytes.{Appends}
use Rattle.ufs_base.specs.Faults.{raised}
use Rattle.ufs_bench.specs.Workload.{bench_geometry}
use Rattle.ufs_disk.specs.Disk.{seen}
use Rattle.ufs_brink.specs.Begins.{BeginsWith, HasNothingOpen}
use Rattle.ufs_engine.specs.Plays.{AreFaultsOf, ArePlayedFrom, HasBytes, MayPlay, served_end}
use Rattle.ufs_engine.specs.declared.playing.PlayFault.{PlayFault}
use Rattle.ufs_image.specs.Opens.{ImageTree, NodeBytes, opens, root_entry, root_tree}
use Rattle.ufs_image.specs.Proper.{IsProperImage}
use Rattle.ufs_layout.specs.Areas.{sector_count}
use Rattle.ufs_ledger.specs.Kept.{path_node_of}
use Rattle.ufs_model.specs.History.{joined}
use Rattle.ufs_model.specs.Order.{fd_cmp, path_cmp}
use Rattle.ufs_model.specs.PosixTree.{PosixTree, root_alone}
use Rattle.ufs_model.specs.Start.{start_from}
use Rattle.ufs_model.specs.declared.data.PathNode.TheVariants as path_node
use Rattle.ufs_model.specs.declared.data.Entry.{Entry}
use Rattle.ufs_model.specs.declared.data.Op.{Op}
use Rattle.ufs_model.proofs.Facts.Orders.{path_same, path_total}
use Rattle.ufs_promise_laws.specs.Starts.{image_start}
use Rattle.ufs_told.specs.Told.{HasRisen}
use Rattle.ufs_command.specs.declared.ending.Ending.{Ending}
use Rattle.ufs_command.specs.declared.ending.Ending.TheVariants.{Done, Usage, BadGeometry, NotBuilt, BadScript, TooSmall, NoTree, DeviceFault, OutOfMemory, SourceFault, Damaged, Illegal}
use Rattle.ufs_command.specs.Bench.{EndsBench, EndsFormatted, EndsSmall, EndsUnformatted, HasServed, IsOnceFormatted, IsServedFrom, bench_script, bench_text}
use Rattle.ufs_command.specs.Endings.{EndsBehind, EndsPrinting, EndsServed, IsAnswer, sink_status, status_of}
use Rattle.ufs_command.specs.Seen.{Formatting, Writing}
use Rattle.ufs_command.specs.Served.{EndsSession, IsFromDisk, IsHistoryOf, TellsEnd}
use Rattle.ufs_command.specs.Texts.{device_line, memory_line, too_small_line}
use Rattle.ufs_command.specs.Told.{AreCalmThroughout, TellsBench}
use Rattle.ufs_command.proofs.PlayLemmas.{begun_there, end_risen, raised_risen}
use Rattle.ufs_command.proofs.ServingLemmas.{HasPlayed}

-- ---- a session on a new image begins with the root alone

image_entries : entries root_tree ≡ root_entry ∷ []
image_entries = entries-rising path_cmp path_total path_same (root_entry ∷ []) refl

begins_alone : image_start root_tree ≡ root_alone
begins_alone =
    ap (λ (es : List (List ℕ × NodeBytes)). start_from (entries (from_entries {R = path_cmp} (map (λ (e : List ℕ × NodeBytes). (e.0, path_node_of e.1)) es)))) image_entries
    ∙ ap start_from (entries-rising path_cmp path_total path_same ((47 ∷ [], path_node.Dir) ∷ []) refl)

module _ (d f : Formatting) (once : IsOnceFormatted d f) (known : IsTrue d.visible) where
  pub may : MayPlay f.visible f.sectors f.state
  may =
      let new = once.made known in
      record {
        is_visible = subst (λ (v : Bool). IsTrue v) (sym once.visible) known;
        proper = record { settled = new.settled; proper = subst (λ (n : ℕ). IsProperImage n (seen f.state)) (sym once.sectors) new.new.proper };
      }

  pub begins : BeginsWith f.sectors f.image root_alone
  begins = record {
    tree = root_tree;
    opened = ap (opens f.sectors) f.read ∙ ap (λ (n : ℕ). opens n (seen f.state)) once.sectors ∙ (once.made known).new.root_alone;
    start_is = sym begins_alone;
  }

module _ (clients : List (List Op)) (d f : Formatting) (once : IsOnceFormatted d f) where
  served : (told : List (List Entry)) (bytes : ℕ) → IsFromDisk f (IsServedFrom clients told bytes) → HasServed clients d told bytes
  served told bytes of = at d.visible refl
    where
      at : (v : Bool) → d.visible ≡ v → HasServed clients d told bytes
      at true known = (root_alone, (λ client fd. get-empty fd_cmp (client, fd)), (λ k. refl), of.begun (may d f once known) root_alone (begins d f once known))
      at false is = (of.any.0, of.any.1, (λ known. absurd (let clash : true ≡ false = sym known ∙ is in cc)), of.any.2)

-- ---- a session that is whole was measured

module _ (clients : List (List Op)) (d : Formatting) (told : List (List Entry)) (result : Result (Unit {0}) PlayFault) (bytes : ℕ) (h : HasPlayed d (bench_script clients) told result) (well : served_end result ≡ Ok tt) where
  history : (start : PosixTree) → ArePlayedFrom start clients told result → IsHistoryOf start (bench_script clients) (joined told)
  history start p = record { legal = p.legal; ordered = p.ordered; servers = p.servers; complete = p.complete well }

  pub measured : ((start : PosixTree) × HasNothingOpen start × ArePlayedFrom start clients told result × HasBytes start (joined told) (served_end result) bytes)
      → (MayPlay d.visible d.sectors d.state → (start : PosixTree) → BeginsWith d.sectors d.image start → HasBytes start (joined told) (served_end result) bytes) → IsFromDisk d (IsServedFrom clients told bytes)
  measured from sized = record {
    any = (from.0, from.1, (history from.0 from.2, from.3 well));
    opened = h.opened;
    begun = λ allowed start with. (history start (h.played allowed start with), sized allowed start with well);
  }

-- ---- by the status, of a disk that is large enough

abbrev IsStopped : List (List Op) → Formatting → List (List Entry) → List ℕ → Type 0
IsStopped clients d told text = ((told ≡ []) × (d.now ≡ raised d.before) × (text ≡ device_line d.now))
    ⊎ ((bytes : ℕ) × HasServed clients d told bytes × (fault : ℕ) × TellsEnd d told fault × (text ≡ bench_text told bytes ++ device_line fault))

data ByStatus (clients : List (List Op)) (d : Formatting) (told : List (List Entry)) (status : ℕ) (text : List ℕ) : Type 0 where
  whole : status ≡ 0 → (bytes : ℕ) → HasServed clients d told bytes → EndsSession d told (Ok tt) → text ≡ bench_text told bytes → ByStatus clients d told status text
  unbegun : status ≡ 3 → (IsTrue d.visible → ⊥) → ByStatus clients d told status text
  stopped : status ≡ 4 → IsStopped clients d told text → ByStatus clients d told status text
  starved : status ≡ 5 → ByStatus clients d told status text

module _ (clients : List (List Op)) (d : Formatting) (told : List (List Entry)) (status : ℕ) where
  unformatted_by : (ending : Ending) (text : List ℕ) → status ≡ status_of ending → EndsUnformatted d told ending text → ByStatus clients d told status text
  unformatted_by ending text is (none, inl e) = starved (is ∙ ap status_of e.1.0)
  unformatted_by ending text is (none, inr e) = stopped (is ∙ ap status_of e.1.0) (inl (none, e.0, e.1.1))

  module _ (f : Formatting) (once : IsOnceFormatted d f) where
    end_as : (fault : ℕ) → TellsEnd f told fault → TellsEnd d told fault
    end_as fault tells = subst (λ (n : ℕ). TellsEnd (record d { before = n }) told fault) once.before (subst (λ (n : ℕ). TellsEnd (record f { now = n }) told fault) once.now tells)

    end_well : EndsSession f told (Ok tt) → EndsSession d told (Ok tt)
    end_well ends = subst (λ (n : ℕ). EndsSession (record d { before = n }) told (Ok tt)) once.before (subst (λ (n : ℕ). EndsSession (record f { now = n }) told (Ok tt)) once.now ends)

    abbrev EndsAs : ℕ → Ending → List ℕ → Type 0
    EndsAs bytes ending text = EndsServed (IsFromDisk f (IsServedFrom clients told bytes)) (bench_text told bytes) f (bench_script clients) told ending text

    stopped_by : (bytes : ℕ) (text : List ℕ) → EndsAs bytes DeviceFault text → IsStopped clients d told text
    stopped_by bytes text (inl e) = inl (e.0, sym once.now ∙ e.1 ∙ ap raised once.before, e.2 ∙ ap device_line once.now)
    stopped_by bytes text (inr e) = inr (bytes, served clients d f once told bytes e.0, e.1, end_as e.1 e.2, e.3)

    -- a new image has a tree
    begun : IsTrue d.visible → (bytes : ℕ) (text : List ℕ) → EndsAs bytes NoTree text → ⊥
    begun known bytes text e =
        let m = may d f once known in
        begun_there f (subst (IsProperImage f.sectors) (sym f.read) m.proper.proper) e.2.fault e.2.ending_is (e.2.why m)

    served_by : (bytes : ℕ) (ending : Ending) (text : List ℕ) → status ≡ status_of ending → EndsAs bytes ending text → ByStatus clients d told status text
    served_by bytes Done text is e = whole is bytes (served clients d f once told bytes e.0) (end_well e.1) e.2
    served_by bytes Usage text is e = absurd e
    served_by bytes (BadGeometry bad) text is e = absurd e
    served_by bytes NotBuilt text is e = absurd e
    served_by bytes BadScript text is e = absurd e
    served_by bytes TooSmall text is e = absurd e
    served_by bytes NoTree text is e = unbegun is (λ known. begun known bytes text e)
    served_by bytes DeviceFault text is e = stopped is (stopped_by bytes text e)
    served_by bytes OutOfMemory text is e = starved is
    served_by bytes SourceFault text is e = absurd e
    served_by bytes Damaged text is e = absurd e
    served_by bytes Illegal text is e = absurd e

  by_status : (ending : Ending) (text : List ℕ) → status ≡ status_of ending → EndsUnformatted d told ending text ⊎ EndsFormatted clients d told ending text → ByStatus clients d told status text
  by_status ending text is (inl e) = unformatted_by ending text is e
  by_status ending text is (inr e) = served_by e.0 e.1 e.2.0 ending text is e.2.1

  -- ---- what a status says

  module _ (text : List ℕ) where
    whole_of : status ≡ 0 → ByStatus clients d told status text → (bytes : ℕ) × HasServed clients d told bytes × EndsSession d told (Ok tt) × (text ≡ bench_text told bytes)
    whole_of zero (whole is bytes of ends e) = (bytes, of, ends, e)
    whole_of zero (unbegun is e) = absurd (omega (arith, zero, is))
    whole_of zero (stopped is e) = absurd (omega (arith, zero, is))
    whole_of zero (starved is) = absurd (omega (arith, zero, is))

    unbegun_of : status ≡ 3 → ByStatus clients d told status text → IsTrue d.visible → ⊥
    unbegun_of three (whole is bytes of ends e) known = absurd (omega (arith, three, is))
    unbegun_of three (unbegun is e) known = e known
    unbegun_of three (stopped is e) known = absurd (omega (arith, three, is))
    unbegun_of three (starved is) known = absurd (omega (arith, three, is))

    stopped_of : status ≡ 4 → ByStatus clients d told status text → IsStopped clients d told text
    stopped_of four (whole is bytes of ends e) = absurd (omega (arith, four, is))
    stopped_of four (unbegun is e) = absurd (omega (arith, four, is))
    stopped_of four (stopped is e) = e
    stopped_of four (starved is) = absurd (omega (arith, four, is))

    module _ (quiet : (fault : ℕ) → HasRisen d.before d.now fault → ⊥) where
      never_stopped : IsStopped clients d told text → ⊥
      never_stopped (inl e) = quiet d.now (raised_risen d.before d.now e.1)
      never_stopped (inr e) = quiet e.2 (end_risen d told e.2 e.3)

      complete_by : IsTrue d.visible → ByStatus clients d told status text → (status ≡ 0) ⊎ (status ≡ 5)
      complete_by known (whole is bytes of ends e) = inl is
      complete_by known (unbegun is e) = absurd (e known)
      complete_by known (stopped is e) = absurd (never_stopped e)
      complete_by known (starved is) = inr is

-- ---- by the disk's size

abbrev IsSmall : Formatting → List (List Entry) → List ℕ → Type 0
IsSmall d told text = (d.sectors < sector_count bench_geometry) × (told ≡ []) × (text ≡ too_small_line)

abbrev BySize : List (List Op) → Formatting → List (List Entry) → ℕ → List ℕ → Type 0
BySize clients d told status text = ((status ≡ 3) × IsSmall d told text) ⊎ ((sector_count bench_geometry ≤ d.sectors) × ByStatus clients d told status text)

module _ (clients : List (List Op)) (d : Formatting) (told : List (List Entry)) (status : ℕ) where
  by_size : (ending : Ending) (text : List ℕ) → status ≡ status_of ending → EndsBench clients d told ending text → BySize clients d told status text
  by_size ending text is (inl e) = inl (is ∙ ap status_of e.3.0, (e.0, e.1, e.3.1))
  by_size ending text is (inr e) = inr (e.0, by_status clients d told status ending text is e.1)

  module _ (text : List ℕ) where
    -- a status that isn't that of a small disk
    large : (status ≡ 3 → ⊥) → BySize clients d told status text → ByStatus clients d told status text
    large other (inl e) = absurd (other e.0)
    large other (inr e) = e.1

    small_of : IsTrue d.visible → status ≡ 3 → BySize clients d told status text → IsSmall d told text
    small_of known three (inl e) = e.1
    small_of known three (inr e) = absurd (unbegun_of clients d told status text three e.1 known)

    large_of : sector_count bench_geometry ≤ d.sectors → BySize clients d told status text → ByStatus clients d told status text
    large_of enough (inl e) = let less = e.1.0 in absurd (omega (arith, less, enough))
    large_of enough (inr e) = e.1

    refused_of : d.sectors < sector_count bench_geometry → BySize clients d told status text → status ≡ 3
    refused_of less (inl e) = e.0
    refused_of less (inr e) = let enough = e.0 in absurd (omega (arith, less, enough))

-- ---- of the whole answer

module _ (clients : List (List Op)) (d : Formatting) (told : List (List Entry)) (w : Writing) (status : ℕ) (a : IsAnswer (EndsBench clients d told) w status) where
  told_by : (status ≡ sink_status → ⊥) → (text : List ℕ) × BySize clients d told status text × Appends w.held w.holds text
  told_by other = let x = a.whole other in (x.1, by_size clients d told status x.0 x.1 x.2 x.3, x.4)

  stopped_got : (text : List ℕ) → Appends w.held w.holds text → IsStopped clients d told text
      → ((told ≡ []) × (d.now ≡ raised d.before) × Appends w.held w.holds (device_line d.now))
      ⊎ ((bytes : ℕ) × HasServed clients d told bytes × (fault : ℕ) × TellsEnd d told fault × Appends w.held w.holds (bench_text told bytes ++ device_line fault))
  stopped_got text got (inl e) = inl (e.0, e.1, subst (Appends w.held w.holds) e.2 got)
  stopped_got text got (inr e) = inr (e.0, e.1, e.2, e.3, subst (Appends w.held w.holds) e.4 got)

  pub bench_told : AreFaultsOf d.before d.now (joined told) → TellsBench clients d told w status
  bench_told faults = record {
    done = λ zero.
        let x = told_by (λ e. cc) in
        let e = whole_of clients d told status x.0 zero (large clients d told status x.0 (λ three. cc) x.1) in
        (e.0, e.1, e.2, subst (Appends w.held w.holds) e.3 x.2);
    small = λ known three.
        let x = told_by (λ e. cc) in
        let e = small_of clients d told status x.0 known three x.1 in
        (e.0, e.1, subst (Appends w.held w.holds) e.2 x.2);
    closing = λ four. let x = told_by (λ e. cc) in stopped_got x.0 x.2 (stopped_of clients d told status x.0 four (large clients d told status x.0 (λ three. cc) x.1));
    faults = faults;
    complete = λ known enough calm.
        let x = told_by (λ s. calm.sink (a.rose s)) in
        complete_by clients d told status x.0 calm.disk known (large_of clients d told status x.0 enough x.1);
    refused = λ less calm. let x = told_by (λ s. calm (a.rose s)) in inl (refused_of clients d told status x.0 less x.1);
  }

-- ---- what a command tells that was made of parts

-- there is no memory for the lines
pub unsummed : (lines : List ℕ) → EndsPrinting lines OutOfMemory memory_line
unsummed lines = ([], record { front_is = (lines, refl); ended = inl refl }, refl)

pub unsummed_behind : (lines : List ℕ) (fault : ℕ) → EndsBehind lines fault OutOfMemory memory_line
unsummed_behind lines fault = ([], record { front_is = (lines, refl); ended = inl refl }, refl)
