-- The codes by which views are told apart.
use Rattle.std.specs.Prelude.{refl}
use Rattle.std.specs.Coded.{Coded, code_by, coded×, coded_ℕ, coded_bool, coded_list, coded_option}
use Rattle.std.specs.FinSet as set
use base.Stored.{coded_unit}
use Rattle.ufs_bitmap.specs.Space.{space_code}
use Rattle.ufs_file_commits.specs.State.{DurableState}
use Rattle.ufs_file_commits.specs.contracts.durable.FileCommits as commits
use Rattle.ufs_file.specs.contracts.hand.FileHand as hand
use Rattle.ufs_journal.specs.contracts.journal.Journal as journal
use Rattle.ufs_layout.specs.contracts.superblock.Super as super
use Rattle.ufs_names.specs.NamesPart.{part_code}
use Rattle.ufs_overlay.specs.contracts.overlay.Overlay as overlay
use Rattle.ufs_hand_laws.specs.Codes.{asked_code, cells_code, client_code, numbers, stretch_code}
use Rattle.ufs_joint.specs.Cells.{FileCell, NamesCell, StoreCell, View}

-- a file, and what is known of its commits
abbrev pub durable_code : Coded DurableState
durable_code = code_by _ (coded× hand.the_row.coded commits.the_row.coded) (λ f. (f.file, record { log = f.log; dropped = f.dropped })) (λ p. record { file = p.0; log = p.1.log; dropped = p.1.dropped }) (λ _. refl)

abbrev pub file_code : Coded FileCell
file_code = code_by _ (coded× durable_code (coded× coded_ℕ (coded× coded_ℕ coded_bool))) (λ c. (c.value, (c.changed, (c.known, c.born)))) (λ p. record { value = p.0; changed = p.1.0; known = p.1.1.0; born = p.1.1.1 }) (λ _. refl)

abbrev pub names_code : Coded NamesCell
names_code = code_by _ (coded× part_code (coded× numbers (coded× (set.code coded_ℕ) (coded× (set.code coded_ℕ) (coded× coded_ℕ coded_ℕ)))))
    (λ c. (c.value, (c.fresh, (c.dropped, (c.named, (c.changed, c.known)))))) (λ p. record { value = p.0; fresh = p.1.0; dropped = p.1.1.0; named = p.1.1.1.0; changed = p.1.1.1.1.0; known = p.1.1.1.1.1 }) (λ _. refl)

abbrev pub store_code : Coded StoreCell
store_code = code_by _
    (coded× (coded× coded_ℕ (coded× (coded× cells_code coded_ℕ) (coded× coded_ℕ super.the_row.coded)))
    (coded× (coded× journal.the_row.coded (coded× overlay.the_row.coded (coded× coded_ℕ space_code))) (coded× (coded× coded_bool (coded_option coded_ℕ)) (coded× coded_ℕ (coded_list stretch_code)))))
    (λ c. ((c.sectors, ((c.state, c.counted), (c.faults, c.superblock))), ((c.journal, (c.overlay, (c.txn, c.unassigned))), ((c.unsettled, c.stop), (c.stamp, c.past)))))
    (λ p. record {
      sectors = p.0.0;
      state = p.0.1.0.0;
      counted = p.0.1.0.1;
      faults = p.0.1.1.0;
      superblock = p.0.1.1.1;
      journal = p.1.0.0;
      overlay = p.1.0.1.0;
      txn = p.1.0.1.1.0;
      unassigned = p.1.0.1.1.1;
      unsettled = p.1.1.0.0;
      stop = p.1.1.0.1;
      stamp = p.1.1.1.0;
      past = p.1.1.1.1;
    }) (λ _. refl)

abbrev pub view_code : Coded View
view_code = code_by _
    (coded× (coded× (coded_list (coded× coded_ℕ client_code)) (coded× (coded_list (coded× coded_ℕ asked_code)) (coded_list (coded× coded_ℕ file_code))))
    (coded× (coded_list (coded× coded_ℕ (set.code coded_ℕ))) (coded× (coded_list (coded× coded_unit names_code)) (coded× (coded_list (coded× coded_unit store_code)) (coded× coded_ℕ (coded× (coded_list coded_ℕ) (coded_option coded_ℕ)))))))
    (λ v. ((v.clients, (v.asked, v.files)), (v.pools, (v.names, (v.store, (v.seen, (v.faults, v.stop)))))))
    (λ p. record {
      clients = p.0.0;
      asked = p.0.1.0;
      files = p.0.1.1;
      pools = p.1.0;
      names = p.1.1.0;
      store = p.1.1.1.0;
      seen = p.1.1.1.1.0;
      faults = p.1.1.1.1.1.0;
      stop = p.1.1.1.1.1.1;
    }) (λ _. refl)
