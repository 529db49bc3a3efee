-- How the files are kept: a place for each, in a table of records that picks the places.
use Rattle.std.specs.Prelude.{ℕ, List, ◌≡◌, ◌-◌, ◌≤◌, Some, min, map, nat_eq, unwrap_or, refl}
use Rattle.std.specs.Coded.{Coded, code_by, coded×, coded_ℕ}
use Rattle.std.specs.Option.{option_map}
use Rattle.std.specs.HashMap as hash
use Rattle.std.specs.HashMap.{HashMap}
use Rattle.std.specs.FinMap as fin
use Rattle.slab.specs.Slab.{Slab, get, slab_len}
use Rattle.ufs_owner.specs.declared.owner.Standing.{Standing}
use Rattle.ufs_owner.specs.declared.records.Record.{Record}
use Rattle.ufs_owner.specs.Owners.{Files, nothing_known}

-- the files, and how many more fit without memory
pub record Kept : Type 0 where
  pub files : Files
  pub room : ℕ

abbrev pub kept_code : Coded Standing → Coded Kept
kept_code standing =
    code_by (Files × ℕ) (coded× (fin.code coded_ℕ standing) coded_ℕ) (λ k. (k.files, k.room)) (λ p. record { files = p.0; room = p.1 }) (λ _. refl)

-- what is known of the file whose record has the place
abbrev pub standing_under : Slab Record → ℕ → Standing
standing_under records place = unwrap_or (option_map (λ (r : Record). r.standing) (get records place)) nothing_known

abbrev pub listed : Slab Record → List (ℕ × ℕ) → List (ℕ × Standing)
listed records entries = map {B = ℕ × Standing} (λ e. (e.0, standing_under records e.1)) entries

module _ {S : Type 0} where
  abbrev pub files_of : HashMap ℕ ℕ S → Slab Record → Files
  files_of places records = fin.from_entries (listed records places.entries)

  abbrev pub room_of : HashMap ℕ ℕ S → Slab Record → ℕ
  room_of places records = min (hash.spare places) (records.capacity - slab_len records)

  -- each place has a record, of the file whose place it is
  pub record ArePlaced (places : HashMap ℕ ℕ S) (records : Slab Record) : Type 0 where
    pub placed : (file place : ℕ) → hash.get nat_eq places file ≡ Some place → option_map (λ (r : Record). r.file) (get records place) ≡ Some file
    pub within : slab_len records ≤ records.capacity
