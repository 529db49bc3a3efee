-- A server whose names are committed: no block is fresh, and nothing is noted.
use Rattle.std.proofs.Common.{◌≡◌, ℕ, inl, inr, Bool, true, [], sym, ◌∙◌}
use Rattle.ufs_bitmap.specs.Blocks.{BlockSet}
use Rattle.ufs_bitmap.specs.Taking.{has}
use Rattle.ufs_bitmap.proofs.TakingLemmas.{has-none}
use Rattle.ufs_dir_tree.specs.Steps.{DirState}
use Rattle.ufs_layout.specs.DentryForm.{DentryForm}
use Rattle.ufs_layout.specs.declared.geometry.Geometry.{Geometry}
use Rattle.ufs_model.specs.PosixTree.{PosixTree}
use Rattle.ufs_promise_laws.specs.Held.{HasName, HasSoundNames}
use Rattle.ufs_names.specs.NamesPart.{IsNamesPart}
use Rattle.ufs_promise_laws.specs.Laws.{with_names_committed}
use Rattle.ufs_promise_laws.specs.Parts.{NamesOwn, OneFile, Owner, Owns, Parts, TheNames, ThePool, Unassigned}
use Rattle.ufs_promise_laws.specs.Sound.{IsSoundServer}
use Rattle.ufs_promise_laws.specs.Stored.{ArePartsOf}

pub never : (b : ℕ) → has [] b ≡ true → ⊥
never b is = (let clash = sym is ∙ has-none b in cc)

module _ (p : Parts) (u : BlockSet) where
  names_before : (b : ℕ) → NamesOwn (with_names_committed p) b → NamesOwn p b
  names_before b (inl fresh) = absurd (never b fresh)
  names_before b (inr rest) = inr rest

  -- whose a block is, it was before
  pub before : (owner : Owner) (b : ℕ) → Owns (with_names_committed p) u owner b → Owns p u owner b
  before (OneFile f) b owns = record { hand = owns.hand; here = owns.here; held = owns.held }
  before ThePool b owns = owns
  before Unassigned b owns = owns
  before TheNames b owns = names_before b owns

pub part_committed : (p : Parts) (t : PosixTree) → IsNamesPart p.names t → IsNamesPart (with_names_committed p).names t
part_committed p t part = record {
  tree = part.tree;
  paths = part.paths;
  once = part.once;
  next = part.next;
  linked = part.linked;
  held = part.held;
  told = part.told;
  inodes = record { inode = part.inodes.inode; live = part.inodes.live; own = part.inodes.own };
}

pub parts_committed : (p : Parts) (t : PosixTree) → ArePartsOf p t → ArePartsOf (with_names_committed p) t
parts_committed p t is = record { names = part_committed p t is.names; files = is.files; inodes = is.inodes; here = is.here }

pub sound_committed : (g : Geometry) (u : BlockSet) (p : Parts) → IsSoundServer g u p → IsSoundServer g u (with_names_committed p)
sound_committed g u p s = record {
  apart = λ one other b a c. s.apart one other b (before p u one b a) (before p u other b c);
  inside = λ owner b owns. s.inside owner b (before p u owner b owns);
  each = s.each;
  inodes = s.inodes;
  known = s.known;
  counted = s.counted;
  parted = s.parted;
}

-- the sound names of a state are those of one with other blocks of zeros
pub sound_zeroed : (g : Geometry) (s : DirState) (zeroed : ℕ → Bool) → HasSoundNames g s → HasSoundNames g (record s { zeroed = zeroed })
sound_zeroed g s zeroed was = record {
  fit = λ dir place e at. let f = was.fit dir place e (named dir place e at) in record { plain = f.plain; in_range = f.in_range; kind = f.kind; used = f.used; no_root = f.no_root };
  names_once = λ dir a b e f x y same. was.names_once dir a b e f (named dir a e x) (named dir b f y) same;
  inodes_once = λ dir other a b e f x y same. was.inodes_once dir other a b e f (named dir a e x) (named other b f y) same;
}
  where
    named : (dir place : ℕ) (e : DentryForm) → HasName g (record s { zeroed = zeroed }) dir place e → HasName g s dir place e
    named dir place e at = record { in_range = at.in_range; there = at.there; named = at.named }
