-- The codes by which views are told apart.
use Rattle.std.specs.Prelude.{ℕ, Bool, List, Option, refl}
use Rattle.std.specs.Coded.{Coded, code_by, coded×, coded_ℕ, coded_bool, coded_list, coded_option}
use Rattle.std.specs.FinMap as map
use Rattle.std.specs.Ordering.{nat_cmp}
use base.Stored.{coded_unit}
use Rattle.ufs_disk.specs.Disk.{Cell}
use Rattle.ufs_model.specs.PosixTree.{Paths}
use Rattle.ufs_model.specs.contracts.data.Desc as desc
use Rattle.ufs_model.specs.contracts.data.Entry as entry
use Rattle.ufs_model.specs.contracts.data.Lease as lease
use Rattle.ufs_model.specs.contracts.data.Node as node
use Rattle.ufs_model.specs.contracts.data.Op as op
use Rattle.ufs_model.specs.declared.data.Entry.{Entry}
use Rattle.ufs_model.specs.declared.data.Lease.{Lease}
use Rattle.ufs_model.specs.declared.data.Op.{Op}
use Rattle.ufs_crash_laws.specs.Changes.{NameState}
use Rattle.ufs_crash_laws.specs.Changes as changed
use Rattle.ufs_crash_laws.specs.contracts.data.FileChange as change
use Rattle.ufs_crash_laws.specs.declared.data.FileChange.{FileChange}
use Rattle.ufs_hand_laws.specs.Parts.{OwnFds, ClientPart, AskedPart, FilePart, NamesPart, StorePart, Cells, Stretch, Shortage, View}

abbrev pub numbers : Coded (List ℕ)
numbers = coded_list coded_ℕ

abbrev pub own_fds_code : Coded OwnFds
own_fds_code = map.code coded_ℕ desc.the_row.coded

abbrev pub paths_code : Coded Paths
paths_code = map.code numbers node.the_row.coded

abbrev pub client_code : Coded ClientPart
client_code = code_by (List Entry × (OwnFds × (List Lease × Option Op)))
    (coded× (coded_list entry.the_row.coded) (coded× own_fds_code (coded× (coded_list lease.the_row.coded) (coded_option op.the_row.coded))))
    (λ p. (p.entries, (p.fds, (p.copies, p.asked)))) (λ p. record { entries = p.0; fds = p.1.0; copies = p.1.1.0; asked = p.1.1.1 }) (λ _. refl)

abbrev pub asked_code : Coded AskedPart
asked_code = code_by (List Entry × (OwnFds × (List Lease × (Option Op × ℕ))))
    (coded× (coded_list entry.the_row.coded) (coded× own_fds_code (coded× (coded_list lease.the_row.coded) (coded× (coded_option op.the_row.coded) coded_ℕ))))
    (λ p. (p.entries, (p.fds, (p.copies, (p.asked, p.tickets))))) (λ p. record { entries = p.0; fds = p.1.0; copies = p.1.1.0; asked = p.1.1.1.0; tickets = p.1.1.1.1 }) (λ _. refl)

abbrev pub file_code : Coded FilePart
file_code = code_by ((Option (List ℕ) × (List FileChange × (List ℕ × List Lease))) × ((List ℕ × (List ℕ × List ℕ)) × (List ℕ × (Bool × ℕ))))
    (coded× (coded× (coded_option numbers) (coded× (coded_list change.the_row.coded) (coded× numbers (coded_list lease.the_row.coded)))) (coded× (coded× numbers (coded× numbers numbers)) (coded× numbers (coded× coded_bool coded_ℕ))))
    (λ p. ((p.opening, (p.changes, (p.bytes, p.leases))), ((p.blocks, (p.quarantine, p.spare)), (p.loaded, (p.born, p.known)))))
    (λ p. record {
      opening = p.0.0;
      changes = p.0.1.0;
      bytes = p.0.1.1.0;
      leases = p.0.1.1.1;
      blocks = p.1.0.0;
      quarantine = p.1.0.1.0;
      spare = p.1.0.1.1;
      loaded = p.1.1.0;
      born = p.1.1.1.0;
      known = p.1.1.1.1;
    }) (λ _. refl)

abbrev pub names_code : Coded NamesPart
names_code = code_by ((NameState × (Paths × (List NameState × List (ℕ × ℕ)))) × ((List Lease × (ℕ × List ℕ)) × ((List ℕ × List (ℕ × List ℕ)) × (List ℕ × (ℕ × ℕ)))))
    (coded× (coded× changed.names_code (coded× paths_code (coded× (coded_list changed.names_code) (coded_list (coded× coded_ℕ coded_ℕ)))))
    (coded× (coded× (coded_list lease.the_row.coded) (coded× coded_ℕ numbers)) (coded× (coded× numbers (coded_list (coded× coded_ℕ numbers))) (coded× numbers (coded× coded_ℕ coded_ℕ)))))
    (λ p. ((p.opening, (p.paths, (p.changes, p.holds))), ((p.leases, (p.next, p.born)), ((p.blocks, p.dropped), (p.spare, (p.clock, p.known))))))
    (λ p. record {
      opening = p.0.0;
      paths = p.0.1.0;
      changes = p.0.1.1.0;
      holds = p.0.1.1.1;
      leases = p.1.0.0;
      next = p.1.0.1.0;
      born = p.1.0.1.1;
      blocks = p.1.1.0.0;
      dropped = p.1.1.0.1;
      spare = p.1.1.1.0;
      clock = p.1.1.1.1.0;
      known = p.1.1.1.1.1;
    }) (λ _. refl)

abbrev pub cell_code : Coded Cell
cell_code = code_by (List (List ℕ) × List ℕ) (coded× (coded_list numbers) numbers) (λ c. (c.older, c.seen)) (λ p. record { older = p.0; seen = p.1 }) (λ _. refl)

abbrev pub cells_code : Coded Cells
cells_code = coded_list cell_code

abbrev pub stretch_code : Coded Stretch
stretch_code = code_by (List Cells × (ℕ × ℕ)) (coded× (coded_list cells_code) (coded× coded_ℕ coded_ℕ)) (λ s. (s.states, (s.from, s.to))) (λ p. record { states = p.0; from = p.1.0; to = p.1.1 }) (λ _. refl)

abbrev pub shortage_code : Coded Shortage
shortage_code = code_by (ℕ × (ℕ × ℕ)) (coded× coded_ℕ (coded× coded_ℕ coded_ℕ)) (λ s. (s.need, (s.had, s.pool))) (λ p. record { need = p.0; had = p.1.0; pool = p.1.1 }) (λ _. refl)

abbrev pub store_code : Coded StorePart
store_code = code_by
    ((map.FinMap nat_cmp ℕ × (ℕ × map.FinMap nat_cmp (List ℕ))) × ((List ℕ × List ℕ) × ((List Stretch × (Option Paths × (Cells × ℕ))) × ((List (ℕ × ℕ) × ℕ) × (List ℕ × (List Shortage × Option ℕ))))))
    (coded× (coded× (map.code coded_ℕ coded_ℕ) (coded× coded_ℕ (map.code coded_ℕ numbers))) (coded× (coded× numbers numbers) (coded× (coded× (coded_list stretch_code) (coded× (coded_option paths_code) (coded× cells_code coded_ℕ)))
    (coded× (coded× (coded_list (coded× coded_ℕ coded_ℕ)) coded_ℕ) (coded× numbers (coded× (coded_list shortage_code) (coded_option coded_ℕ)))))))
    (λ s. ((s.files, (s.names, s.extents)), ((s.dirs, s.unassigned), ((s.past, (s.paths, (s.state, s.mark))), ((s.lent, s.lent_names), (s.faults, (s.shortages, s.stop)))))))
    (λ p. record {
      files = p.0.0;
      names = p.0.1.0;
      extents = p.0.1.1;
      dirs = p.1.0.0;
      unassigned = p.1.0.1;
      past = p.1.1.0.0;
      paths = p.1.1.0.1.0;
      state = p.1.1.0.1.1.0;
      mark = p.1.1.0.1.1.1;
      lent = p.1.1.1.0.0;
      lent_names = p.1.1.1.0.1;
      faults = p.1.1.1.1.0;
      shortages = p.1.1.1.1.1.0;
      stop = p.1.1.1.1.1.1;
    }) (λ _. refl)

abbrev pub view_code : Coded View
view_code = code_by
    ((List (ℕ × ClientPart) × (List (ℕ × AskedPart) × List (ℕ × FilePart))) × ((List (ℕ × List ℕ) × (List (Unit {0} × NamesPart) × List (Unit {0} × StorePart))) × ((ℕ × ℕ) × (List ℕ × (Option ℕ × List Shortage)))))
    (coded× (coded× (coded_list (coded× coded_ℕ client_code)) (coded× (coded_list (coded× coded_ℕ asked_code)) (coded_list (coded× coded_ℕ file_code))))
    (coded× (coded× (coded_list (coded× coded_ℕ numbers)) (coded× (coded_list (coded× coded_unit names_code)) (coded_list (coded× coded_unit store_code)))) (coded× (coded× coded_ℕ coded_ℕ) (coded× numbers (coded× (coded_option coded_ℕ) (coded_list shortage_code))))))
    (λ v. ((v.clients, (v.asked, v.files)), ((v.pools, (v.names, v.store)), ((v.seen, v.clock), (v.faults, (v.stop, v.shortages))))))
    (λ p. record {
      clients = p.0.0;
      asked = p.0.1.0;
      files = p.0.1.1;
      pools = p.1.0.0;
      names = p.1.0.1.0;
      store = p.1.0.1.1;
      seen = p.1.1.0.0;
      clock = p.1.1.0.1;
      faults = p.1.1.1.0;
      stop = p.1.1.1.1.0;
      shortages = p.1.1.1.1.1;
    }) (λ _. refl)
