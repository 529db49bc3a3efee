use Rattle.std.proofs.Common.{◌≡◌, ◌-◌, List, true, false, get_or, ap, sym, ◌∙◌, subst}
use Rattle.std.specs.Prelude.{map}
use Rattle.std.specs.List.{All}
use Rattle.ufs_disk.specs.Disk.{IsImage}
use Rattle.ufs_disk.specs.Moments.{reads}
use Rattle.ufs_disk.proofs.Runs.{goes_on_quietly, still_joined}
use Rattle.ufs_layout.specs.declared.geometry.Geometry.{Geometry}
use Rattle.ufs_image.specs.Journal.{FoundSector, committed_of}
use Rattle.ufs_found.specs.Off.{lower, lowest_of, first_off}
use Rattle.ufs_scan.specs.Folding.{IsFoldable}
use Rattle.ufs_scan.specs.Gathered.{transaction_in, HasParts}
use Rattle.ufs_scan.specs.Standings.{out_of, marked_standings}
use Rattle.ufs_scan.specs.declared.chains.Chain.{Chain}
use Rattle.ufs_scan.proofs.Fewer.{few_copied}
use Rattle.ufs_scan.proofs.Told.{read_is, told_bad, txns}
use Rattle.ufs_scan.proofs.scanning.scan.Goals as goal

pub returns-in_err-standings-clause-crash : goal.returns-in_err-standings-clause-crash
returns-in_err-standings-clause-crash g c visible =
    goes_on_quietly g.D.Disk.keeps (IsImage (g.D.Disk.moments c.args.disk.now).state) (g.D.Disk.moments c.args.disk.now) (g.D.Disk.moments c.read_journal.new.disk) (g.D.Disk.moments c.read_standings.new.disk) (c.read_journal.ensures.crash visible) (c.read_standings.ensures.crash visible)

pub returns-in_err-standings-clause-still : goal.returns-in_err-standings-clause-still
returns-in_err-standings-clause-still g c visible =
    still_joined g.D.Disk.keeps (g.D.Disk.moments c.args.disk.now) (g.D.Disk.moments c.read_journal.new.disk) (g.D.Disk.moments c.read_standings.new.disk) (c.read_journal.ensures.still visible) (c.read_standings.ensures.still visible)

pub returns-in_err-lowest-clause-crash : goal.returns-in_err-lowest-clause-crash
returns-in_err-lowest-clause-crash g c visible =
    goes_on_quietly g.D.Disk.keeps (IsImage (g.D.Disk.moments c.args.disk.now).state) (g.D.Disk.moments c.args.disk.now) (g.D.Disk.moments c.read_journal.new.disk) (g.D.Disk.moments c.read_standings.new.disk) (c.read_journal.ensures.crash visible) (c.read_standings.ensures.crash visible)

pub returns-in_err-lowest-clause-still : goal.returns-in_err-lowest-clause-still
returns-in_err-lowest-clause-still g c visible =
    still_joined g.D.Disk.keeps (g.D.Disk.moments c.args.disk.now) (g.D.Disk.moments c.read_journal.new.disk) (g.D.Disk.moments c.read_standings.new.disk) (c.read_journal.ensures.still visible) (c.read_standings.ensures.still visible)

pub returns-in-Some-clause-crash : goal.returns-in-Some-clause-crash
returns-in-Some-clause-crash g c visible =
    goes_on_quietly g.D.Disk.keeps (IsImage (g.D.Disk.moments c.args.disk.now).state) (g.D.Disk.moments c.args.disk.now) (g.D.Disk.moments c.read_journal.new.disk) (g.D.Disk.moments c.read_standings.new.disk) (c.read_journal.ensures.crash visible) (c.read_standings.ensures.crash visible)

pub returns-in-Some-clause-still : goal.returns-in-Some-clause-still
returns-in-Some-clause-still g c visible =
    still_joined g.D.Disk.keeps (g.D.Disk.moments c.args.disk.now) (g.D.Disk.moments c.read_journal.new.disk) (g.D.Disk.moments c.read_standings.new.disk) (c.read_journal.ensures.still visible) (c.read_standings.ensures.still visible)

pub returns-in_err-list-in-None-clause-crash : goal.returns-in_err-list-in-None-clause-crash
returns-in_err-list-in-None-clause-crash g c visible =
    goes_on_quietly g.D.Disk.keeps (IsImage (g.D.Disk.moments c.args.disk.now).state) (g.D.Disk.moments c.args.disk.now) (g.D.Disk.moments c.read_journal.new.disk) (g.D.Disk.moments c.read_standings.new.disk) (c.read_journal.ensures.crash visible) (c.read_standings.ensures.crash visible)

pub returns-in_err-list-in-None-clause-still : goal.returns-in_err-list-in-None-clause-still
returns-in_err-list-in-None-clause-still g c visible =
    still_joined g.D.Disk.keeps (g.D.Disk.moments c.args.disk.now) (g.D.Disk.moments c.read_journal.new.disk) (g.D.Disk.moments c.read_standings.new.disk) (c.read_journal.ensures.still visible) (c.read_standings.ensures.still visible)

pub returns-in_err-copy_all-in-None-clause-crash : goal.returns-in_err-copy_all-in-None-clause-crash
returns-in_err-copy_all-in-None-clause-crash g c visible =
    goes_on_quietly g.D.Disk.keeps (IsImage (g.D.Disk.moments c.args.disk.now).state) (g.D.Disk.moments c.args.disk.now) (g.D.Disk.moments c.read_journal.new.disk) (g.D.Disk.moments c.read_standings.new.disk) (c.read_journal.ensures.crash visible) (c.read_standings.ensures.crash visible)

pub returns-in_err-copy_all-in-None-clause-still : goal.returns-in_err-copy_all-in-None-clause-still
returns-in_err-copy_all-in-None-clause-still g c visible =
    still_joined g.D.Disk.keeps (g.D.Disk.moments c.args.disk.now) (g.D.Disk.moments c.read_journal.new.disk) (g.D.Disk.moments c.read_standings.new.disk) (c.read_journal.ensures.still visible) (c.read_standings.ensures.still visible)

pub returns-clause-crash : goal.returns-clause-crash
returns-clause-crash g c visible =
    goes_on_quietly g.D.Disk.keeps (IsImage (g.D.Disk.moments c.args.disk.now).state) (g.D.Disk.moments c.args.disk.now) (g.D.Disk.moments c.read_journal.new.disk) (g.D.Disk.moments c.read_standings.new.disk) (c.read_journal.ensures.crash visible) (c.read_standings.ensures.crash visible)

pub returns-clause-still : goal.returns-clause-still
returns-clause-still g c visible =
    still_joined g.D.Disk.keeps (g.D.Disk.moments c.args.disk.now) (g.D.Disk.moments c.read_journal.new.disk) (g.D.Disk.moments c.read_standings.new.disk) (c.read_journal.ensures.still visible) (c.read_standings.ensures.still visible)

pub returns-in-Some-clause-bad : goal.returns-in-Some-clause-bad
returns-in-Some-clause-bad g c visible =
    told_bad c.args.geometry.now c.requires.geometry c.args.superblock.now (reads (g.D.Disk.moments c.args.disk.now)) c.in_ok-sectors.sectors.found.items (map (λ b. b.now) c.in_ok-parts.parts.items) (map (λ b. b.now) c.in_ok-commits.commits.items) c.in_ok-chains.chains.items
    (read_is c.args.geometry.now c.args.superblock.now (reads (g.D.Disk.moments c.args.disk.now)) c.in_ok-sectors.sectors.found.items c.deref-2.result.now c.deref-3.result.now (map (λ b. b.now) c.in_ok-parts.parts.items) (map (λ b. b.now) c.deref-4.result.now) (map (λ b. b.now) c.in_ok-commits.commits.items) c.in_ok-chains.chains.items
    c.deref-2.ensures.value c.deref-3.ensures.value (ap (map (λ b. b.now)) c.deref-4.ensures.value) (c.in_ok-sectors.ensures.found visible) c.in_ok-parts.ensures.parts c.in_ok-parts.ensures.same c.in_ok-parts.ensures.small c.in_ok-chains.ensures.chains c.in_ok-chains.ensures.fit c.in_ok-commits.ensures.commits c.in_ok-commits.ensures.small)
    (reads (g.D.Disk.moments c.read_journal.new.disk)) (c.read_journal.ensures.content visible)
    c.in_ok-marks.marks.items (subst (λ l. All (λ (x : Chain). get_or c.in_ok-marks.marks.items (x.inode - 1) false ≡ true) l) c.deref-5.ensures.value c.in_ok-marks.ensures.marks)
    c.in_ok-standings.standings.items (c.in_ok-standings.ensures.list visible ∙ ap (λ m. marked_standings c.args.geometry.now m (reads (g.D.Disk.moments c.read_journal.new.disk))) c.deref-6.ensures.value)
    c.in_ok-sectors.sectors.misspelled c.in_ok-off.off c.lower-known.result c.in_ok-lowest.lowest
    (c.in_ok-sectors.ensures.misspelled visible) (c.in_ok-off.ensures ∙ ap (first_off c.args.geometry.now c.args.superblock.now.next) c.deref.ensures.value) c.lower-known.ensures
    (subst (λ l. (h : Geometry) (all some : List FoundSector) → IsFoldable h all some c.in_ok-chains.chains.items (map (λ b. b.now) l) c.in_ok-standings.standings.items c.lower-known.result → c.in_ok-lowest.lowest ≡ lower c.lower-known.result (lowest_of (out_of h (map (transaction_in all) (map (λ b. b.now) l)) c.in_ok-standings.standings.items))) c.deref-8.ensures.value
    (subst (λ x. (h : Geometry) (all some : List FoundSector) → IsFoldable h all some x (map (λ b. b.now) c.deref-8.result.now) c.in_ok-standings.standings.items c.lower-known.result → c.in_ok-lowest.lowest ≡ lower c.lower-known.result (lowest_of (out_of h (map (transaction_in all) (map (λ b. b.now) c.deref-8.result.now)) c.in_ok-standings.standings.items))) c.deref-7.ensures.value
    c.in_ok-lowest.ensures))
    ∙ c.in-Some.is

pub returns-clause-whole : goal.returns-clause-whole
returns-clause-whole g c visible =
    told_bad c.args.geometry.now c.requires.geometry c.args.superblock.now (reads (g.D.Disk.moments c.args.disk.now)) c.in_ok-sectors.sectors.found.items (map (λ b. b.now) c.in_ok-parts.parts.items) (map (λ b. b.now) c.in_ok-commits.commits.items) c.in_ok-chains.chains.items
    (read_is c.args.geometry.now c.args.superblock.now (reads (g.D.Disk.moments c.args.disk.now)) c.in_ok-sectors.sectors.found.items c.deref-2.result.now c.deref-3.result.now (map (λ b. b.now) c.in_ok-parts.parts.items) (map (λ b. b.now) c.deref-4.result.now) (map (λ b. b.now) c.in_ok-commits.commits.items) c.in_ok-chains.chains.items
    c.deref-2.ensures.value c.deref-3.ensures.value (ap (map (λ b. b.now)) c.deref-4.ensures.value) (c.in_ok-sectors.ensures.found visible) c.in_ok-parts.ensures.parts c.in_ok-parts.ensures.same c.in_ok-parts.ensures.small c.in_ok-chains.ensures.chains c.in_ok-chains.ensures.fit c.in_ok-commits.ensures.commits c.in_ok-commits.ensures.small)
    (reads (g.D.Disk.moments c.read_journal.new.disk)) (c.read_journal.ensures.content visible)
    c.in_ok-marks.marks.items (subst (λ l. All (λ (x : Chain). get_or c.in_ok-marks.marks.items (x.inode - 1) false ≡ true) l) c.deref-5.ensures.value c.in_ok-marks.ensures.marks)
    c.in_ok-standings.standings.items (c.in_ok-standings.ensures.list visible ∙ ap (λ m. marked_standings c.args.geometry.now m (reads (g.D.Disk.moments c.read_journal.new.disk))) c.deref-6.ensures.value)
    c.in_ok-sectors.sectors.misspelled c.in_ok-off.off c.lower-known.result c.in_ok-lowest.lowest
    (c.in_ok-sectors.ensures.misspelled visible) (c.in_ok-off.ensures ∙ ap (first_off c.args.geometry.now c.args.superblock.now.next) c.deref.ensures.value) c.lower-known.ensures
    (subst (λ l. (h : Geometry) (all some : List FoundSector) → IsFoldable h all some c.in_ok-chains.chains.items (map (λ b. b.now) l) c.in_ok-standings.standings.items c.lower-known.result → c.in_ok-lowest.lowest ≡ lower c.lower-known.result (lowest_of (out_of h (map (transaction_in all) (map (λ b. b.now) l)) c.in_ok-standings.standings.items))) c.deref-8.ensures.value
    (subst (λ x. (h : Geometry) (all some : List FoundSector) → IsFoldable h all some x (map (λ b. b.now) c.deref-8.result.now) c.in_ok-standings.standings.items c.lower-known.result → c.in_ok-lowest.lowest ≡ lower c.lower-known.result (lowest_of (out_of h (map (transaction_in all) (map (λ b. b.now) c.deref-8.result.now)) c.in_ok-standings.standings.items))) c.deref-7.ensures.value
    c.in_ok-lowest.ensures))
    ∙ c.in-None.is

pub returns-clause-committed : goal.returns-clause-committed
returns-clause-committed g c visible =
    c.in_ok-copy_all-in-None.ensures ∙ ap (map committed_of) (c.deref-in-None-3.ensures.value
    ∙ c.in_ok-list-in-None.ensures c.in_ok-sectors.sectors.found.items (subst (λ l. HasParts c.in_ok-sectors.sectors.found.items (map (λ b. b.now) l)) (sym c.deref-in-None.ensures.value) (subst (λ l. HasParts l (map (λ b. b.now) c.in_ok-parts.parts.items)) c.deref-2.ensures.value c.in_ok-parts.ensures.parts))
    ∙ ap (λ l. map (transaction_in c.in_ok-sectors.sectors.found.items) (map (λ b. b.now) l)) c.deref-in-None-2.ensures.value
    ∙ txns c.args.geometry.now c.requires.geometry c.args.superblock.now (reads (g.D.Disk.moments c.args.disk.now)) c.in_ok-sectors.sectors.found.items (map (λ b. b.now) c.in_ok-parts.parts.items) (map (λ b. b.now) c.in_ok-commits.commits.items) c.in_ok-chains.chains.items
    (read_is c.args.geometry.now c.args.superblock.now (reads (g.D.Disk.moments c.args.disk.now)) c.in_ok-sectors.sectors.found.items c.deref-2.result.now c.deref-3.result.now (map (λ b. b.now) c.in_ok-parts.parts.items) (map (λ b. b.now) c.deref-4.result.now) (map (λ b. b.now) c.in_ok-commits.commits.items) c.in_ok-chains.chains.items
    c.deref-2.ensures.value c.deref-3.ensures.value (ap (map (λ b. b.now)) c.deref-4.ensures.value) (c.in_ok-sectors.ensures.found visible) c.in_ok-parts.ensures.parts c.in_ok-parts.ensures.same c.in_ok-parts.ensures.small c.in_ok-chains.ensures.chains c.in_ok-chains.ensures.fit c.in_ok-commits.ensures.commits c.in_ok-commits.ensures.small))

pub returns-clause-few : goal.returns-clause-few
returns-clause-few g c =
    few_copied c.in_ok-sectors.sectors.found.items c.in_ok-sectors.sectors.found.items c.deref-3.result.now (map (λ b. b.now) c.in_ok-commits.commits.items) (map (λ b. b.now) c.deref-in-None-2.result.now) c.in_ok-list-in-None.list.items c.deref-in-None-3.result.now c.in_ok-copy_all-in-None.field-0 c.args.geometry.now.journal
    c.in_ok-sectors.ensures.few c.deref-3.ensures.value c.in_ok-commits.ensures.commits (ap (map (λ b. b.now)) c.deref-in-None-2.ensures.value)
    (c.in_ok-list-in-None.ensures c.in_ok-sectors.sectors.found.items (subst (λ l. HasParts c.in_ok-sectors.sectors.found.items (map (λ b. b.now) l)) (sym c.deref-in-None.ensures.value) (subst (λ l. HasParts l (map (λ b. b.now) c.in_ok-parts.parts.items)) c.deref-2.ensures.value c.in_ok-parts.ensures.parts)))
    c.deref-in-None-3.ensures.value c.in_ok-copy_all-in-None.ensures
