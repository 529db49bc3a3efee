-- What holds of a server whether its disk is visible or not, behind requests on its files and their commits.
use Rattle.std.proofs.Common.{◌≡◌, ◌≢◌, ℕ, ◌⊎◌, inl, inr, true, Some, None, ap, sym, refl, ◌∙◌, subst}
use Rattle.std.specs.Prelude.{nat_eq}
use Rattle.std.specs.List.{IsDistinct}
use Rattle.std.specs.FinMap as map
use Rattle.std.specs.FinSet as set
use Rattle.ufs_bitmap.specs.Blocks.{BlockSet}
use Rattle.std.proofs.lemmas.List.{append-nil}
use Rattle.ufs_bitmap.specs.Taking.{IsApart, set_of}
use Rattle.ufs_extent.specs.Runs.{blocks_of}
use Rattle.ufs_file.specs.Hand.{FileState}
use Rattle.ufs_files.specs.Files.{AreNumbered}
use Rattle.ufs_files.proofs.MapLemmas.{one_or_apart}
use Rattle.ufs_layout.specs.Areas.{is_inode_number}
use Rattle.ufs_layout.specs.declared.geometry.Geometry.{Geometry}
use Rattle.ufs_ledger.specs.Ledger.{IsDataBlock}
use Rattle.std.specs.Cmp.{nat_cmp_total}
use Rattle.std.specs.FinMap.{nat_cmp-IsAntisymmetric}
use Rattle.ufs_model.proofs.Facts.Lookups as lookups
use Rattle.ufs_names.specs.Calls.{HaveInodes}
use Rattle.ufs_file_commits.specs.State.{DurableState, blocks_held, file_committed}
use Rattle.ufs_file_commits.proofs.Requests.{goes_apart, goes_noted, goes_together, goes_within, same_inode, same_number}
use Rattle.ufs_file_commits.proofs.Standing.{noted_committed}
use Rattle.ufs_promise_laws.specs.Parts.{OneFile, Owner, Owns, Parts, TheNames, ThePool, Unassigned, durable_in, with_file}
use Rattle.ufs_promise_laws.specs.Sound.{IsFileSound}
use Rattle.ufs_promise_laws.proofs.FileDone as done
use Rattle.ufs_promise_laws.proofs.Pools as pools
use Rattle.ufs_promise_laws.proofs.Puts.{durable_else, durable_here, either}
use Rattle.ufs_promise_laws.proofs.Spaced as spaced
use Rattle.ufs_promise_laws.proofs.Spaced.{pool_apart}
use Rattle.ufs_promise_laws.specs.FileRequests.{SoundByFileRequests, SoundByFreeBlocks}
use Rattle.ufs_promise_laws.specs.Syncs.{SoundByFileSyncs}

-- ---- free blocks

pub sound_by_free_blocks : SoundByFreeBlocks
sound_by_free_blocks g u p pool v moves sound = record {
  apart = pools.apart_now u v pool p moves sound.apart;
  inside = inside;
  each = sound.each;
  inodes = sound.inodes;
  known = sound.known;
  counted = sound.counted;
  parted = sound.parted;
}
  where
    free : (b : ℕ) → (set.contains p.pool b ≡ true) ⊎ (set.contains u b ≡ true) → IsDataBlock g b
    free b (inl pooled) = sound.inside ThePool b pooled
    free b (inr loose) = sound.inside Unassigned b loose

    inside : (owner : Owner) (b : ℕ) → Owns (record p { pool = pool }) v owner b → IsDataBlock g b
    inside (OneFile f) b owns = sound.inside (OneFile f) b (pools.file_before u v pool p moves sound.apart f b owns)
    inside ThePool b owns = free b (moves.pool b owns)
    inside Unassigned b owns = free b (moves.store b owns)
    inside TheNames b owns = sound.inside TheNames b owns

-- ---- one file in the place of another

module _ (g : Geometry) (p : Parts) (s : FileState) (x : DurableState) (pool : BlockSet) (old : map.get p.files s.file ≡ Some s) (number : x.file.file ≡ s.file) (inode : x.file.inode ≡ s.inode) (numbered : AreNumbered p.files) where
  abbrev q : Parts
  q = with_file x pool p

  pub each_put : IsFileSound g x → ((file : ℕ) (f : FileState) → map.get p.files file ≡ Some f → IsFileSound g (durable_in p.commits f)) → (file : ℕ) (f : FileState) → map.get q.files file ≡ Some f → IsFileSound g (durable_in q.commits f)
  each_put itself each file f there = by (either x pool p file f there)
    where
      by : ((file ≡ x.file.file) × (f ≡ x.file)) ⊎ ((file ≢ x.file.file) × (map.get p.files file ≡ Some f)) → IsFileSound g (durable_in q.commits f)
      by (inl both) = subst (IsFileSound g) (sym (ap (durable_in q.commits) both.1 ∙ durable_here x pool p)) itself
      by (inr both) = subst (IsFileSound g) (sym (durable_else x pool p f (λ e. both.0 (sym (numbered file f both.1) ∙ e)))) (each file f both.1)

  pub inodes_put : HaveInodes p.names.held p.files → HaveInodes p.names.held q.files
  inodes_put inodes file f h there held = by (either x pool p file f there)
    where
      by : ((file ≡ x.file.file) × (f ≡ x.file)) ⊎ ((file ≢ x.file.file) × (map.get p.files file ≡ Some f)) → f.inode ≡ h.inode
      by (inl both) = ap (λ (y : FileState). y.inode) both.1 ∙ inode ∙ inodes file s h (ap (map.get p.files) (both.0 ∙ number) ∙ old) held
      by (inr both) = inodes file f h both.1 held

  pub known_put : ((file : ℕ) → map.get p.files file ≡ None → map.get p.commits file ≡ None) → (file : ℕ) → map.get q.files file ≡ None → map.get q.commits file ≡ None
  known_put known file none = by (one_or_apart file x.file.file)
    where
      by : (file ≡ x.file.file) ⊎ (file ≢ x.file.file) → map.get q.commits file ≡ None
      by (inl is) = (let clash = sym none ∙ ap (map.get q.files) is ∙ lookups.inserted_here nat_cmp_total nat_cmp-IsAntisymmetric p.files x.file.file x.file in absurd cc)
      by (inr not) =
          lookups.inserted_else nat_cmp_total nat_cmp-IsAntisymmetric p.commits x.file.file _ file not
          ∙ known file (sym (lookups.inserted_else nat_cmp_total nat_cmp-IsAntisymmetric p.files x.file.file x.file file not) ∙ none)

-- ---- a request on a file

pub sound_by_requests : SoundByFileRequests
sound_by_requests g u entry p f x pool ask server ticket desc d numbered old is applied sound = record {
  apart = spaced.apart_now u p f x pool old number apart_now together within numbered sound.apart;
  inside = inside;
  each = each_put g p f x pool old number inode numbered itself sound.each;
  inodes = inodes_put g p f x pool old number inode numbered sound.inodes;
  known = known_put g p f x pool old number inode numbered sound.known;
  counted = sound.counted;
  parted = sound.parted;
}
  where
    whole : IsFileSound g (durable_in p.commits f)
    whole = sound.each f.file f old

    apart : IsApart p.pool (blocks_held (durable_in p.commits f))
    apart = pool_apart u p f old whole.once sound.apart

    number : x.file.file ≡ f.file
    number = same_number (durable_in p.commits f) x p.pool pool whole.noted apart ask server ticket entry desc d is applied

    inode : x.file.inode ≡ f.inode
    inode = same_inode (durable_in p.commits f) x p.pool pool whole.noted apart ask server ticket entry desc d is applied

    apart_now : IsApart pool (blocks_held x)
    apart_now = goes_apart (durable_in p.commits f) x p.pool pool whole.noted apart ask server ticket entry desc d is applied

    together : set.union pool (set.from_list (blocks_held x)) ≡ set.union p.pool (set.from_list (blocks_held (durable_in p.commits f)))
    together = goes_together (durable_in p.commits f) x p.pool pool whole.noted apart ask server ticket entry desc d is applied

    within : (b : ℕ) → set.contains pool b ≡ true → set.contains p.pool b ≡ true
    within = goes_within (durable_in p.commits f) x p.pool pool whole.noted apart ask server ticket entry desc d is applied

    itself : IsFileSound g x
    itself = record {
      noted = goes_noted (durable_in p.commits f) x p.pool pool whole.noted apart ask server ticket entry desc d is applied;
      once = apart_now.once;
      inode = ap (is_inode_number g) inode ∙ whole.inode;
    }

    inside : (owner : Owner) (b : ℕ) → Owns (with_file x pool p) u owner b → IsDataBlock g b
    inside owner b owns = by (spaced.before u p f x pool old number apart_now together within numbered sound.apart owner b owns)
      where
        by : spaced.Before u p f x pool old number apart_now together within numbered sound.apart owner b → IsDataBlock g b
        by (inl had) = sound.inside owner b had
        by (inr new) = sound.inside ThePool b new.1

-- ---- a file is committed

pub sound_by_syncs : SoundByFileSyncs
sound_by_syncs g u p f numbered at sound = record {
  apart = done.apart_now u p f at whole.noted numbered sound.apart;
  inside = inside;
  each = each_put g p f (file_committed (durable_in p.commits f)) p.pool at refl refl numbered itself sound.each;
  inodes = inodes_put g p f (file_committed (durable_in p.commits f)) p.pool at refl refl numbered sound.inodes;
  known = known_put g p f (file_committed (durable_in p.commits f)) p.pool at refl refl numbered sound.known;
  counted = sound.counted;
  parted = sound.parted;
}
  where
    whole : IsFileSound g (durable_in p.commits f)
    whole = sound.each f.file f at

    itself : IsFileSound g (file_committed (durable_in p.commits f))
    itself = record {
      noted = noted_committed (durable_in p.commits f) whole.noted;
      once = subst (IsDistinct nat_eq) (sym (append-nil (blocks_of f.extents))) whole.noted.apart.once;
      inode = whole.inode;
    }

    inside : (owner : Owner) (b : ℕ) → Owns (with_file (file_committed (durable_in p.commits f)) p.pool p) (set.union u (set_of (durable_in p.commits f).dropped)) owner b → IsDataBlock g b
    inside owner b owns = by (done.before u p f at whole.noted numbered sound.apart owner b owns)
      where
        by : done.Before u p f at whole.noted numbered sound.apart owner b → IsDataBlock g b
        by (inl had) = sound.inside owner b had
        by (inr new) = sound.inside (OneFile f.file) b (done.dropped_mine u p f at whole.noted numbered sound.apart b new.1)
