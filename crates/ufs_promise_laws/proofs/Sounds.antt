-- A server stays sound by a request of the names.
use Rattle.std.proofs.Common.{◌≡◌, ℕ, ◌+◌, ◌<◌, ◌≤◌, ◌⊎◌, inl, inr, List, [], Bool, true, false, Some, None, length, leb, ap, sym, refl, ◌∙◌, subst, arith}
use Rattle.std.specs.Prelude.{nat_eq, nat_le, ◌&&◌}
use Rattle.std.specs.List.{IsDistinct}
use Rattle.std.specs.FinMap as map
use Rattle.ufs_bitmap.specs.Blocks.{BlockSet}
use Rattle.ufs_bitmap.proofs.TakingLemmas.{distinct-none, has-none}
use Rattle.ufs_file_commits.specs.State.{blocks_held, state_of}
use Rattle.ufs_file.specs.Hand.{FileState}
use Rattle.ufs_layout.specs.Areas.{is_inode_number}
use Rattle.ufs_layout.specs.declared.geometry.Geometry.{Geometry}
use Rattle.ufs_model.specs.PosixTree.{PosixTree}
use Rattle.ufs_model.proofs.Facts.Lookups.{there_or_not}
use Rattle.ufs_names.specs.Calls.{no_bytes}
use Rattle.ufs_promise_laws.specs.Parts.{Owner, Owns, Parts, committed_as, durable_in}
use Rattle.ufs_promise_laws.specs.Sound.{IsFileSound, IsSoundServer}
use Rattle.ufs_promise_laws.specs.RequestLaws.{RequestsAreSound}
use Rattle.ufs_promise_laws.specs.Requests.{IsNamesRequest, StaysOrEmptied}
use Rattle.ufs_promise_laws.proofs.ListedBlocks.{clash}
use Rattle.ufs_promise_laws.proofs.Emptied.{emptied_sound}
use Rattle.ufs_promise_laws.proofs.RequestNewFiles.{is_committed}
use Rattle.ufs_promise_laws.proofs.Numbers.{in_table}
use Rattle.ufs_promise_laws.proofs.Owners.{apart_now, before, parted_now}

le_true : (a b : ℕ) → a ≤ b → nat_le a b ≡ true
le_true a b le = grind (arith, le)

pub inode_number : (g : Geometry) (inode count : ℕ) → count ≡ g.inodes + 1 → (1 ≤ inode) × (inode < count) → is_inode_number g inode ≡ true
inode_number g inode count counted at =
    let from = at.0 in let within = at.1 in
    (λ i. le_true 1 inode from i && le_true inode g.inodes (omega (arith, within, counted)) i)

new_sound : (g : Geometry) (f inode : ℕ) → is_inode_number g inode ≡ true → IsFileSound g (state_of (no_bytes f inode) (committed_as (no_bytes f inode)))
new_sound g f inode is = record {
  noted = record { inode = refl; runs = refl; size = refl; marks = refl; apart = record { absent = λ b held. absurd (clash _ held (has-none b)); once = distinct-none }; held = refl; written = λ place on. on };
  once = distinct-none;
  inode = is;
}

pub request_sound : RequestsAreSound
request_sound g unassigned t u p next lent left r sound = record {
  apart = apart_now t u p next lent left unassigned r sound.apart once;
  inside = λ o b owns. let was = before t u p next lent left unassigned r sound.apart once o b owns in sound.inside was.0 b was.1;
  each = λ f s here. each f s here (there_or_not (map.get p.files f));
  inodes = r.inodes;
  known = r.forgotten;
  counted = r.counted ∙ sound.counted;
  parted = parted_now t u p next lent left unassigned r sound.apart once sound.parted;
}
  where
    once : (f : ℕ) (s : FileState) → map.get p.files f ≡ Some s → IsDistinct nat_eq (blocks_held (durable_in p.commits s))
    once f s at = (sound.each f s at).once

    each : (f : ℕ) (s : FileState) → map.get next.files f ≡ Some s → ((o : FileState) × (map.get p.files f ≡ Some o)) ⊎ (map.get p.files f ≡ None) → IsFileSound g (durable_in next.commits s)
    each f s here (inl at) = by (r.stay f at.0 s at.1 here)
      where
        by : StaysOrEmptied p next at.0 s → IsFileSound g (durable_in next.commits s)
        by (inl same) = subst (IsFileSound g) (sym same.1) (sound.each f at.0 at.1)
        by (inr cut) = subst (IsFileSound g) (sym cut.1) (emptied_sound (durable_in p.commits at.0) g (sound.each f at.0 at.1))
    each f s here (inr none) =
        subst (IsFileSound g) (sym (is_committed t u p next lent left r f s none here))
        (new_sound g f s.inode (inode_number g s.inode (length next.names.tree.dirs.dirs) (r.counted ∙ sound.counted) (in_table t u p next lent left r f s here)))
