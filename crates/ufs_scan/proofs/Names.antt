-- Which inode a record names.
use Rattle.std.proofs.Common.{◌≡◌, inl, inr, ℕ, ◌-◌, List, [], ◌∷◌, ◌++◌, Bool, true, false, ◌&&◌, get_or, set, refl, ap, sym, ◌∙◌, arith}
use Rattle.std.specs.Prelude.{if◌then◌else◌, ◌==◌, map}
use Rattle.std.specs.List.{list_any}
use Rattle.std.proofs.lemmas.Bool.{cases_eq, eq-eqb}
use Rattle.std.proofs.lemmas.List.{get_or-set_other}
use Rattle.ufs_layout.specs.Areas.{is_inode_number}
use Rattle.ufs_image.specs.Journal.{PlacedRecord, Transaction}
use Rattle.ufs_layout.specs.declared.geometry.Geometry.{Geometry}
use Rattle.ufs_layout.specs.declared.records.LogRecord.{LogRecord}
use Rattle.ufs_layout.specs.declared.records.LogRecord.TheVariants.{Delta, Place, Free}
use Rattle.ufs_scan.specs.Standings.{stepped, behind, rested, out_in, out_of}
use Rattle.ufs_scan.specs.declared.standing.Standing.{Standing}

module _ (g : Geometry) (k : ℕ) where
  -- a record of the inode at this place
  abbrev pub names : LogRecord → Bool
  names (Delta inode kind size keep extents) = is_inode_number g inode && inode - 1 == k
  names (Place sector slot dentry) = false
  names (Free inode) = is_inode_number g inode && inode - 1 == k

  abbrev pub named : List PlacedRecord → Bool
  named ps = list_any (λ (p : PlacedRecord). names p.1) ps

  kept_at : (inode : ℕ) (one d : Standing) (all : List Standing) → (is_inode_number g inode && inode - 1 == k) ≡ false → get_or (if is_inode_number g inode then set all (inode - 1) one else all) k d ≡ get_or all k d
  kept_at inode one d all is = by (is_inode_number g inode) is
    where
      by : (b : Bool) → (b && inode - 1 == k) ≡ false → get_or (if b then set all (inode - 1) one else all) k d ≡ get_or all k d
      by true no_ = elim (cases_eq (inode - 1) k) [
        | inl same ↦ (let both : true ≡ false = sym (eq-eqb (inode - 1) k same) ∙ no_ in grind (arith, both))
        | inr ne ↦ get_or-set_other all (inode - 1) k one d (λ e. ne (sym e))
      ]
      by false no_ = refl

  pub kept_stepped : (number : ℕ) (r : LogRecord) (all : List Standing) (d : Standing) → names r ≡ false → get_or (stepped g number r all) k d ≡ get_or all k d
  kept_stepped number (Delta inode kind size keep extents) all d is = kept_at inode _ d all is
  kept_stepped number (Place sector slot dentry) all d is = refl
  kept_stepped number (Free inode) all d is = kept_at inode _ d all is

pub rested_twice : (all : List Standing) → map rested (map rested all) ≡ map rested all
rested_twice [] = refl
rested_twice (x ∷ xs) = ap (λ (l : List Standing). rested x ∷ l) (rested_twice xs)

-- what keeps too many, from inodes that are rested already
pub out_rested : (g : Geometry) (ts : List Transaction) (all : List Standing) → out_of g ts (map rested all) ≡ out_of g ts all
out_rested g [] all = refl
out_rested g (t ∷ ts) all = λ i. out_in g t.number t.records (rested_twice all i) ++ out_of g ts (behind g t.number t.records (rested_twice all i))
