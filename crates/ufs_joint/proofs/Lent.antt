-- What the names tell of the files that they are lent they tell of all.
use Rattle.std.proofs.Common.{◌≡◌, ◌≢◌, ℕ, ◌<◌, ◌⊎◌, inl, inr, Bool, true, false, List, Option, Some, None, is_some, ap, sym, refl, ◌∙◌, subst, arith}
use Rattle.std.specs.Prelude.{◌==◌, ◌&&◌, ◌||◌, IsSome}
use Rattle.std.specs.FinMap as map
use Rattle.std.specs.FinSet as set
use Rattle.std.proofs.lemmas.Bool.Decides.{nat_tests}
use Rattle.ufs_bitmap.specs.Blocks.{BlockSet}
use Rattle.ufs_bitmap.specs.Taking.{IsApart, has}
use Rattle.ufs_bitmap.proofs.TakingLemmas.{distinct-none, has-none}
use Rattle.ufs_dir_tree.specs.DirTable.{DirTable, blocks_at}
use Rattle.ufs_dirs.specs.Directory.{has_block}
use Rattle.ufs_file.specs.Hand.{FileState}
use Rattle.ufs_files.specs.Files as file_set
use Rattle.ufs_files.specs.Files.{AreSizedAs, Files, IsSizedAs}
use Rattle.ufs_files.proofs.MapLemmas.{blocks_none, blocks_there, one_or_apart}
use Rattle.ufs_model.specs.Posix.{posix}
use Rattle.ufs_model.specs.PosixTree.{PosixTree}
use Rattle.ufs_model.specs.declared.data.Ask.{Ask}
use Rattle.ufs_model.specs.declared.data.Desc.{Desc}
use Rattle.ufs_model.specs.declared.data.Reply.{Reply}
use Rattle.ufs_model.proofs.Facts.Lookups.{from_some, same_some, there_or_not}
use Rattle.ufs_names.specs.Calls.{HasNoByte, HaveInodes, IsServed, IsTouched}
use Rattle.ufs_names.specs.Space.{AreApart, HasBlock, HaveTheSame}
use Rattle.ufs_promise_laws.specs.Serving.{HasServed}
use Rattle.ufs_promise_laws.proofs.ListedBlocks.{at_from}
use Rattle.ufs_promise_laws.proofs.Serving.{may_lend}
use Rattle.ufs_promise_laws.specs.Parts.{Parts}
use Rattle.ufs_promise_laws.specs.Stored.{ArePartsOf}
use Rattle.ufs_joint.specs.Lent.{HasServedLent, LentAreApart, LentIsServed}

-- of two maps that have the same at a number, the blocks there are the same
blocks_same : (a b : Files) (f : ℕ) → map.get a f ≡ map.get b f → file_set.blocks_at a f ≡ file_set.blocks_at b f
blocks_same a b f same = by (there_or_not (map.get a f))
  where
    by : ((s : FileState) × (map.get a f ≡ Some s)) ⊎ (map.get a f ≡ None) → file_set.blocks_at a f ≡ file_set.blocks_at b f
    by (inl at) = blocks_there a f at.0 at.1 ∙ sym (blocks_there b f at.0 (sym same ∙ at.1))
    by (inr none) = blocks_none a f none ∙ sym (blocks_none b f (sym same ∙ none))

off_true : (b : Bool) → (b ≡ true → ⊥) → b ≡ false
off_true true not = absurd (not refl)
off_true false not = refl

-- ---- files that are lent

module _ (whole lent : Files) (some : (f : ℕ) (s : FileState) → map.get lent f ≡ Some s → map.get whole f ≡ Some s) where
  -- lent; or of others; or no file at all
  data IsOneOf (f : ℕ) : Type 0 where
    Mine : (s : FileState) → map.get lent f ≡ Some s → map.get whole f ≡ Some s → IsOneOf f
    Theirs : (s : FileState) → map.get lent f ≡ None → map.get whole f ≡ Some s → IsOneOf f
    Nobodys : map.get lent f ≡ None → map.get whole f ≡ None → IsOneOf f

  one_of : (f : ℕ) → IsOneOf f
  one_of f = by (there_or_not (map.get lent f)) (there_or_not (map.get whole f))
    where
      by : ((s : FileState) × (map.get lent f ≡ Some s)) ⊎ (map.get lent f ≡ None) → ((s : FileState) × (map.get whole f ≡ Some s)) ⊎ (map.get whole f ≡ None) → IsOneOf f
      by (inl at) other = Mine at.0 at.1 (some f at.0 at.1)
      by (inr none) (inl at) = Theirs at.0 none at.1
      by (inr none) (inr off) = Nobodys none off

  -- the blocks of one that is lent
  lent_blocks : (f b : ℕ) → has (file_set.blocks_at lent f) b ≡ true → has (file_set.blocks_at whole f) b ≡ true
  lent_blocks f b is = let at = at_from lent f b is in ap (λ (bs : List ℕ). has bs b) (blocks_same whole lent f (some f at.0 at.1 ∙ sym at.1)) ∙ is

  module _ (dirs : DirTable) (pool : BlockSet) (apart : AreApart dirs whole pool) where
    each_lent : (f : ℕ) → IsOneOf f → IsApart pool (file_set.blocks_at lent f)
    each_lent f (Mine s at here) = subst (IsApart pool) (blocks_same whole lent f (here ∙ sym at)) (apart.files.each f)
    each_lent f (Theirs s none here) = subst (IsApart pool) (sym (blocks_none lent f none)) (record { absent = λ b is. (let clash = sym is ∙ has-none b in absurd cc); once = distinct-none })
    each_lent f (Nobodys none here) = subst (IsApart pool) (blocks_same whole lent f (here ∙ sym none)) (apart.files.each f)

    pub apart_lent : AreApart dirs lent pool
    apart_lent = record {
      dirs = apart.dirs;
      files = record {
        each = λ f. each_lent f (one_of f);
        pairwise = λ f h b not is. off_true (has (file_set.blocks_at lent h) b) (λ e. let clash = sym (lent_blocks h b e) ∙ apart.files.pairwise f h b not (lent_blocks f b is) in cc);
      };
      mixed = λ i f b is. off_true (has (file_set.blocks_at lent f) b) (λ e. let clash = sym (lent_blocks f b e) ∙ apart.mixed i f b is in cc);
    }

    -- what another server's file has is of nothing that is lent
    theirs_apart : (f b : ℕ) → map.get lent f ≡ None → has (file_set.blocks_at whole f) b ≡ true → HasBlock dirs lent pool b → ⊥
    theirs_apart f b none is (inl pooled) = let clash = sym pooled ∙ (apart.files.each f).absent b is in cc
    theirs_apart f b none is (inr (inl (i, at))) = let clash = sym is ∙ apart.mixed i f b at in cc
    theirs_apart f b none is (inr (inr (h, at))) = by (one_or_apart h f)
      where
        by : (h ≡ f) ⊎ (h ≢ f) → ⊥
        by (inl same) =
            let found = at_from lent h b at in
            let clash : None ≡ Some found.0 = sym none ∙ sym (ap (map.get lent) same) ∙ found.1 in cc
        by (inr not) = let clash = sym is ∙ apart.files.pairwise h f b not (lent_blocks h b at) in cc

pub lent_apart : LentAreApart
lent_apart p lent_files lent some apart = apart_lent p.files lent_files some p.names.tree.dirs lent apart

-- ---- a request

module _ (t : PosixTree) (ask : Ask) (p next : Parts) (lent_files left_files : Files) (lent left : BlockSet) (touched : Option ℕ) (reply : Reply) (desc : Option Desc) (parts : ArePartsOf p t) (was_apart : AreApart p.names.tree.dirs p.files lent)
    (h : HasServedLent t ask p next lent_files left_files lent left touched reply desc) where
  abbrev u : PosixTree
  u = (posix t ask.client ask.op).0

  abbrev Kind : ℕ → Type 0
  Kind f = IsOneOf p.files lent_files h.files.some f

  kind : (f : ℕ) → Kind f
  kind f = one_of p.files lent_files h.files.some f

  -- a file here is live, and no next one
  live : (f : ℕ) (s : FileState) → map.get p.files f ≡ Some s → IsSome (map.get t.bytes f)
  live f s at = let of = parts.files f s at in ap (λ (k : ℕ). is_some (map.get t.bytes k)) (sym of.0) ∙ ap is_some of.1.has

  below : (f : ℕ) (s : FileState) → map.get p.files f ≡ Some s → f < t.next
  below f s at = parts.names.tree.numbered f (live f s at)

  no_next : (f : ℕ) (s : FileState) → map.get p.files f ≡ Some s → (f == t.next) ≡ false
  no_next f s at = let less = below f s at in grind (arith, nat_tests, less)

  -- no hand of another's file is left
  none_left : (f : ℕ) (s : FileState) → map.get lent_files f ≡ None → map.get p.files f ≡ Some s → map.get left_files f ≡ None
  none_left f s none at = by (there_or_not (map.get left_files f))
    where
      here : is_some (map.get left_files f) ≡ false
      here = h.served.go_on.here f ∙ (λ i. ((is_some (none i) || no_next f s at i) && is_some (map.get u.bytes f)))

      by : ((r : FileState) × (map.get left_files f ≡ Some r)) ⊎ (map.get left_files f ≡ None) → map.get left_files f ≡ None
      by (inl is) = (let clash = sym here ∙ ap is_some is.1 in absurd cc)
      by (inr off) = off

  -- and its bytes stay
  same_bytes : (f : ℕ) (s : FileState) → map.get lent_files f ≡ None → map.get p.files f ≡ Some s → map.get u.bytes f ≡ map.get t.bytes f
  same_bytes f s none at = h.served.go_on.others f none (λ e. let less = below f s at in absurd (omega (arith, less, e)))

  -- what is here afterwards
  next_mine : (f : ℕ) (s : FileState) → map.get lent_files f ≡ Some s → map.get next.files f ≡ map.get left_files f
  next_mine f s at = h.files.back f (λ some. ap is_some at)

  next_theirs : (f : ℕ) (s : FileState) → map.get lent_files f ≡ None → map.get p.files f ≡ Some s → map.get next.files f ≡ map.get p.files f
  next_theirs f s none at = h.files.others f (ap is_some at) none

  next_none : (f : ℕ) → map.get p.files f ≡ None → map.get next.files f ≡ map.get left_files f
  next_none f none = h.files.back f (λ some. let clash = sym some ∙ ap is_some none in absurd cc)

  -- ---- files

  sized : AreSizedAs next.files u
  sized f r at = by (kind f)
    where
      by : Kind f → IsSizedAs u f r
      by (Mine s is here) = h.served.files f r (sym (next_mine f s is) ∙ at)
      by (Nobodys none off) = h.served.files f r (sym (next_none f off) ∙ at)
      by (Theirs s none here) =
          let same : s ≡ r = same_some s r (sym here ∙ sym (next_theirs f s none here) ∙ at) in
          let of = parts.files f s here in
          subst (IsSizedAs u f) same (record { number = of.0; bytes = of.1.bytes; here = same_bytes f s none here ∙ ap (map.get t.bytes) (sym of.0) ∙ of.1.has; size = of.1.may.long })

  here_now : (f : ℕ) → is_some (map.get next.files f) ≡ ((is_some (map.get p.files f) || (f == t.next)) && is_some (map.get u.bytes f))
  here_now f = by (kind f)
    where
      by : Kind f → is_some (map.get next.files f) ≡ ((is_some (map.get p.files f) || (f == t.next)) && is_some (map.get u.bytes f))
      by (Mine s is here) = ap is_some (next_mine f s is) ∙ h.served.go_on.here f ∙ (λ i. ((is_some ((is ∙ sym here) i) || (f == t.next)) && is_some (map.get u.bytes f)))
      by (Nobodys none off) = ap is_some (next_none f off) ∙ h.served.go_on.here f ∙ (λ i. ((is_some ((none ∙ sym off) i) || (f == t.next)) && is_some (map.get u.bytes f)))
      by (Theirs s none here) =
          ap is_some (next_theirs f s none here ∙ here) ∙ sym (ap is_some (same_bytes f s none here) ∙ live f s here)
          ∙ (λ i. ((is_some (sym here i) || (f == t.next)) && is_some (map.get u.bytes f)))

  stays : (f : ℕ) (s r : FileState) → map.get p.files f ≡ Some s → map.get next.files f ≡ Some r → ((r ≡ s) × (map.get u.bytes f ≡ map.get t.bytes f)) ⊎ HasNoByte u f s.inode r
  stays f s r at here = by (kind f)
    where
      by : Kind f → ((r ≡ s) × (map.get u.bytes f ≡ map.get t.bytes f)) ⊎ HasNoByte u f s.inode r
      by (Mine o is was) = h.served.go_on.stays f s r (is ∙ sym was ∙ at) (sym (next_mine f o is) ∙ here)
      by (Theirs o none was) = inl (same_some r s (sym here ∙ next_theirs f o none was ∙ at), same_bytes f o none was)
      by (Nobodys none off) = (let clash = sym off ∙ at in absurd cc)

  untouched : (f : ℕ) → (IsTouched t ask f → ⊥) → map.get next.files f ≡ map.get p.files f
  untouched f not = by (kind f)
    where
      by : Kind f → map.get next.files f ≡ map.get p.files f
      by (Mine s is here) = next_mine f s is ∙ h.served.untouched f not ∙ is ∙ sym here
      by (Theirs s none here) = next_theirs f s none here
      by (Nobodys none off) = next_none f off ∙ h.served.untouched f not ∙ none ∙ sym off

  lent_none : (f : ℕ) → map.get p.files f ≡ None → map.get lent_files f ≡ None
  lent_none f off = by (kind f)
    where
      by : Kind f → map.get lent_files f ≡ None
      by (Mine s is here) = (let clash = sym off ∙ here in absurd cc)
      by (Theirs s none here) = none
      by (Nobodys none gone) = none

  served : IsServed t ask next.names p.files next.files reply desc
  served = record {
    replied = h.served.replied;
    goes_on = h.served.goes_on;
    files = sized;
    told = h.served.told;
    go_on = record {
      here = here_now;
      stays = stays;
      born = λ f r off here. h.served.go_on.born f r (lent_none f off) (sym (next_none f off) ∙ here);
      others = λ f off not. h.served.go_on.others f (lent_none f off) not;
    };
    untouched = untouched;
  }

  inodes : HaveInodes p.names.held p.files → HaveInodes next.names.held next.files
  inodes all f s k at told = by (kind f)
    where
      mine : HaveInodes next.names.held left_files
      mine = h.inodes (λ g r o here known. all g r o (h.files.some g r here) known)

      by : Kind f → s.inode ≡ k.inode
      by (Mine o is was) = mine f s k (sym (next_mine f o is) ∙ at) told
      by (Nobodys none off) = mine f s k (sym (next_none f off) ∙ at) told
      by (Theirs o none was) =
          let held = from_some (map.get p.names.held f) (parts.names.told f ∙ live f o was) in
          let here = sym (next_theirs f o none was) ∙ at in
          all f s held.0 here held.1 ∙ sym (h.stay f held.0 k held.1 told)

  -- ---- blocks

  abbrev d : DirTable
  d = p.names.tree.dirs

  abbrev d2 : DirTable
  d2 = next.names.tree.dirs

  clear : (f b : ℕ) (s : FileState) → map.get lent_files f ≡ None → map.get p.files f ≡ Some s → has (file_set.blocks_at p.files f) b ≡ true → HasBlock d2 left_files left b → ⊥
  clear f b s none at is had = theirs_apart p.files lent_files h.files.some d lent was_apart f b none is ((h.together b).0 had)

  -- whose blocks a file has afterwards
  blocks_now : (f : ℕ) → Kind f → (file_set.blocks_at next.files f ≡ file_set.blocks_at left_files f) ⊎ ((s : FileState) × (map.get lent_files f ≡ None) × (map.get p.files f ≡ Some s) × (file_set.blocks_at next.files f ≡ file_set.blocks_at p.files f))
  blocks_now f (Mine s is here) = inl (blocks_same next.files left_files f (next_mine f s is))
  blocks_now f (Nobodys none off) = inl (blocks_same next.files left_files f (next_none f off))
  blocks_now f (Theirs s none here) = inr (s, none, here, blocks_same next.files p.files f (next_theirs f s none here))

  together : HaveTheSame d p.files lent d2 next.files left
  together b = (forth, back)
    where
      -- what is lent is of all
      whole : HasBlock d lent_files lent b → HasBlock d p.files lent b
      whole (inl pooled) = inl pooled
      whole (inr (inl dir)) = inr (inl dir)
      whole (inr (inr (f, at))) = inr (inr (f, lent_blocks p.files lent_files h.files.some f b at))

      forth : HasBlock d2 next.files left b → HasBlock d p.files lent b
      forth (inl pooled) = whole ((h.together b).0 (inl pooled))
      forth (inr (inl dir)) = whole ((h.together b).0 (inr (inl dir)))
      forth (inr (inr (f, at))) = by (blocks_now f (kind f))
        where
          by : (file_set.blocks_at next.files f ≡ file_set.blocks_at left_files f) ⊎ ((s : FileState) × (map.get lent_files f ≡ None) × (map.get p.files f ≡ Some s) × (file_set.blocks_at next.files f ≡ file_set.blocks_at p.files f)) → HasBlock d p.files lent b
          by (inl same) = whole ((h.together b).0 (inr (inr (f, ap (λ (bs : List ℕ). has bs b) (sym same) ∙ at))))
          by (inr o) = inr (inr (f, ap (λ (bs : List ℕ). has bs b) (sym o.3) ∙ at))

      -- what was left is here
      next_has : HasBlock d2 left_files left b → HasBlock d2 next.files left b
      next_has (inl pooled) = inl pooled
      next_has (inr (inl dir)) = inr (inl dir)
      next_has (inr (inr (f, at))) = by (blocks_now f (kind f))
        where
          by : (file_set.blocks_at next.files f ≡ file_set.blocks_at left_files f) ⊎ ((s : FileState) × (map.get lent_files f ≡ None) × (map.get p.files f ≡ Some s) × (file_set.blocks_at next.files f ≡ file_set.blocks_at p.files f)) → HasBlock d2 next.files left b
          by (inl same) = inr (inr (f, ap (λ (bs : List ℕ). has bs b) same ∙ at))
          by (inr o) = (let found = at_from left_files f b at in let clash = sym (none_left f o.0 o.1 o.2) ∙ found.1 in absurd cc)

      back : HasBlock d p.files lent b → HasBlock d2 next.files left b
      back (inl pooled) = next_has ((h.together b).1 (inl pooled))
      back (inr (inl dir)) = next_has ((h.together b).1 (inr (inl dir)))
      back (inr (inr (f, at))) = by (kind f)
        where
          by : Kind f → HasBlock d2 next.files left b
          by (Mine s is here) = next_has ((h.together b).1 (inr (inr (f, ap (λ (bs : List ℕ). has bs b) (blocks_same lent_files p.files f (is ∙ sym here)) ∙ at))))
          by (Nobodys none off) = (let found = at_from p.files f b at in let clash = sym off ∙ found.1 in absurd cc)
          by (Theirs s none here) = inr (inr (f, ap (λ (bs : List ℕ). has bs b) (blocks_same next.files p.files f (next_theirs f s none here)) ∙ at))

  abbrev Blocks : ℕ → Type 0
  Blocks f = (file_set.blocks_at next.files f ≡ file_set.blocks_at left_files f) ⊎ ((s : FileState) × (map.get lent_files f ≡ None) × (map.get p.files f ≡ Some s) × (file_set.blocks_at next.files f ≡ file_set.blocks_at p.files f))

  moved : (f b : ℕ) (bs : List ℕ) → file_set.blocks_at next.files f ≡ bs → has (file_set.blocks_at next.files f) b ≡ true → has bs b ≡ true
  moved f b bs same is = ap (λ (xs : List ℕ). has xs b) (sym same) ∙ is

  each_now : (f : ℕ) → Blocks f → IsApart left (file_set.blocks_at next.files f)
  each_now f (inl same) = subst (IsApart left) (sym same) (h.apart.files.each f)
  each_now f (inr o) = subst (IsApart left) (sym o.3) (record { absent = λ b is. off_true (set.contains left b) (λ pooled. clear f b o.0 o.1 o.2 is (inl pooled)); once = (was_apart.files.each f).once })

  pair_now : (f k b : ℕ) → f ≢ k → has (file_set.blocks_at next.files f) b ≡ true → has (file_set.blocks_at next.files k) b ≡ true → Blocks f → Blocks k → ⊥
  pair_now f k b not one other (inl a) (inl c) = let clash = sym (moved k b _ c other) ∙ h.apart.files.pairwise f k b not (moved f b _ a one) in cc
  pair_now f k b not one other (inl a) (inr c) = clear k b c.0 c.1 c.2 (moved k b _ c.3 other) (inr (inr (f, moved f b _ a one)))
  pair_now f k b not one other (inr a) (inl c) = clear f b a.0 a.1 a.2 (moved f b _ a.3 one) (inr (inr (k, moved k b _ c other)))
  pair_now f k b not one other (inr a) (inr c) = let clash = sym (moved k b _ c.3 other) ∙ was_apart.files.pairwise f k b not (moved f b _ a.3 one) in cc

  mixed_now : (i f b : ℕ) → has_block (blocks_at d2 i) b ≡ true → has (file_set.blocks_at next.files f) b ≡ true → Blocks f → ⊥
  mixed_now i f b dir is (inl same) = let clash = sym (moved f b _ same is) ∙ h.apart.mixed i f b dir in cc
  mixed_now i f b dir is (inr o) = clear f b o.0 o.1 o.2 (moved f b _ o.3 is) (inr (inl (i, dir)))

  apart : AreApart d2 next.files left
  apart = record {
    dirs = h.apart.dirs;
    files = record {
      each = λ f. each_now f (blocks_now f (kind f));
      pairwise = λ f k b not one. off_true (has (file_set.blocks_at next.files k) b) (λ other. pair_now f k b not one other (blocks_now f (kind f)) (blocks_now k (kind k)));
    };
    mixed = λ i f b dir. off_true (has (file_set.blocks_at next.files f) b) (λ is. mixed_now i f b dir is (blocks_now f (kind f)));
  }

  pub whole_served : HasServed t ask p next lent left touched reply desc
  whole_served = record {
    served = served;
    inodes = inodes;
    was_table = h.was_table;
    table = h.table;
    counted = h.counted;
    noted = h.noted;
    together = together;
    apart = apart;
    pooled = h.pooled;
    pool = h.pool;
    taken = h.taken;
    is_taken = h.is_taken;
    fresh = h.fresh;
    alone = λ f is some. (let at = from_some (map.get p.files f) some in h.alone f is (h.gathered f is (live f at.0 at.1)));
    settled = h.settled;
    dropped = h.dropped;
  }

pub lent_served : LentIsServed
lent_served g unassigned t ask p next lent_files left_files lent left touched reply desc sound parts h =
    whole_served t ask p next lent_files left_files lent left touched reply desc parts (may_lend g unassigned p sound lent h.pooled) h
