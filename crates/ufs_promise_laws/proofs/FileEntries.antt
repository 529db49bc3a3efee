-- A request on a file.
use Rattle.std.proofs.Common.{◌≡◌, ◌≢◌, ℕ, ◌⊎◌, inl, inr, Bool, true, false, List, [], ◌∷◌, ◌++◌, Option, Some, is_some, ap, sym, refl, ◌∙◌, subst, arith}
use Rattle.std.specs.Prelude.{IsSome, unwrap_or}
use Rattle.std.specs.FinMap as map
use Rattle.std.specs.FinSet as set
use Rattle.ufs_bitmap.specs.Blocks.{BlockSet}
use Rattle.ufs_bitmap.specs.Taking.{IsApart}
use Rattle.ufs_file.specs.Hand.{FileState, IsFileOf, IsPosix}
use Rattle.ufs_files.specs.Files.{AreFilesOf}
use Rattle.ufs_files.proofs.MapLemmas.{one_or_apart}
use Rattle.ufs_image.specs.Changes.{IsTakenBlock}
use Rattle.ufs_layout.specs.Superblock.{geometry_of}
use Rattle.ufs_layout.specs.declared.geometry.Geometry.{Geometry}
use Rattle.ufs_ledger.specs.Kept.{Counts}
use Rattle.ufs_ledger.specs.Laws.{EntriesKeep}
use Rattle.ufs_ledger.specs.Ledger.{Ledger}
use Rattle.ufs_model.specs.Asks.{IsAsk, file_in}
use Rattle.ufs_model.specs.FileBytes.{bytes_of}
use Rattle.ufs_model.specs.FileCalls.{file_step, is_on_file}
use Rattle.ufs_model.specs.History.{IsLegal, goes_on, is_excused, tree_after, tree_with}
use Rattle.ufs_model.specs.Posix.{posix}
use Rattle.ufs_model.specs.PosixTree.{PosixTree}
use Rattle.ufs_model.specs.declared.data.Actor.{Actor}
use Rattle.ufs_model.specs.declared.data.Ask.{Ask}
use Rattle.ufs_model.specs.declared.data.Desc.{Desc}
use Rattle.ufs_model.specs.declared.data.Entry.{Entry}
use Rattle.ufs_model.specs.declared.data.Op.{Op}
use Rattle.ufs_model.specs.declared.data.Reply.{Reply}
use Rattle.ufs_model.specs.declared.data.Reply.TheVariants as reply
use Rattle.ufs_names.specs.Calls.{HaveInodes}
use Rattle.ufs_names.specs.Laws.{KeepsNames}
use Rattle.ufs_names.specs.NamesPart.{IsNamesPart}
use Rattle.ufs_crash_laws.specs.Changes.{asks_commit}
use Rattle.ufs_crash_laws.specs.StepLaws.{OthersAcknowledgeNothing}
use Rattle.ufs_crash_laws.proofs.Facts.Histories.{tree_after-append}
use Rattle.ufs_file_commits.specs.Committing.{HasOwnBlocks, OwnsServed}
use Rattle.ufs_file_commits.specs.Serving.{IsApplied, IsServedKept}
use Rattle.ufs_file_commits.specs.Standing.{IsFileBlock, StandsFor, StandsServed}
use Rattle.ufs_file_commits.specs.State.{DurableState, IsNoted, blocks_held, whole_of}
use Rattle.ufs_file_commits.proofs.Requests.{goes_apart, goes_noted, goes_together, goes_within, same_inode, same_number}
use Rattle.ufs_file_commits.proofs.Wholes.{noted_as_whole}
use Rattle.ufs_promise_laws.specs.Parts.{NamesOwn, OneFile, Parts, TheNames, ThePool, durable_in, with_file}
use Rattle.ufs_promise_laws.specs.Stored.{ArePartsOf, FileHasIt, IsFileStored, IsFileWhole, IsStored, with_born}
use Rattle.ufs_promise_laws.proofs.Entries.{counted_still, excuse_leaves, ledger_kept}
use Rattle.ufs_promise_laws.proofs.Puts.{durable_else, durable_here, either, other_file, here}
use Rattle.ufs_promise_laws.proofs.Spaced.{pool_apart, spaced_now}
use Rattle.ufs_promise_laws.proofs.Whole.{file_stays, tree_has, tree_may}

-- a reply that is no excuse lets the tree go on
pub served_goes : (t : PosixTree) (client : ℕ) (request : Op) (r : Reply) → is_excused r ≡ false → tree_with t client request r ≡ (posix t client request).0
served_goes t client request (reply.Excused x) e = absurd cc
served_goes t client request reply.Done e = refl
served_goes t client request (reply.Fd fd) e = refl
served_goes t client request (reply.Count n) e = refl
served_goes t client request (reply.At n) e = refl
served_goes t client request (reply.Got bytes) e = refl
served_goes t client request (reply.IsFile size) e = refl
served_goes t client request (reply.IsDir entries) e = refl
served_goes t client request (reply.Names names) e = refl
served_goes t client request (reply.Refused x) e = refl

-- ---- the parts

module _ (p : Parts) (s : FileState) (x : DurableState) (pool : BlockSet) (old : map.get p.files s.file ≡ Some s) (number : x.file.file ≡ s.file) (inode : x.file.inode ≡ s.inode) (t t' : PosixTree) (parts : ArePartsOf p t)
    (names : IsNamesPart p.names t') (file : IsFileOf x.file t') (others : (f : ℕ) → f ≢ x.file.file → map.get t'.bytes f ≡ map.get t.bytes f) where
  abbrev q : Parts
  q = with_file x pool p

  files_now : AreFilesOf q.files t'
  files_now f r there = by (either x pool p f r there)
    where
      by : ((f ≡ x.file.file) × (r ≡ x.file)) ⊎ ((f ≢ x.file.file) × (map.get p.files f ≡ Some r)) → (r.file ≡ f) × IsFileOf r t'
      by (inl both) = (ap (λ (y : FileState). y.file) both.1 ∙ sym both.0, subst (λ (y : FileState). IsFileOf y t') (sym both.1) file)
      by (inr both) = let was = parts.files f r both.1 in (was.0, file_stays r t t' (others r.file (λ e. both.0 (sym was.0 ∙ e))) was.1)

  inodes_now : HaveInodes p.names.held q.files
  inodes_now f r h there held = by (either x pool p f r there)
    where
      by : ((f ≡ x.file.file) × (r ≡ x.file)) ⊎ ((f ≢ x.file.file) × (map.get p.files f ≡ Some r)) → r.inode ≡ h.inode
      by (inl both) = ap (λ (y : FileState). y.inode) both.1 ∙ inode ∙ parts.inodes f s h (ap (map.get p.files) (both.0 ∙ number) ∙ old) held
      by (inr both) = parts.inodes f r h both.1 held

  here_now : (f : ℕ) → IsSome (map.get p.names.held f) → IsSome (map.get q.files f)
  here_now f live = by (one_or_apart f x.file.file)
    where
      by : (f ≡ x.file.file) ⊎ (f ≢ x.file.file) → IsSome (map.get q.files f)
      by (inl is) = ap is_some (ap (map.get q.files) is ∙ here x pool p)
      by (inr not) = ap is_some (other_file x pool p f not) ∙ parts.here f live

  pub parts_now : ArePartsOf q t'
  parts_now = record { names = names; files = files_now; inodes = inodes_now; here = here_now }

-- excused or served
turn : (r : Reply) (P : Type 0) → (is_excused r ≡ true → P) → (is_excused r ≡ false → P) → P
turn r P on off = by (is_excused r) refl
  where
    by : (b : Bool) → is_excused r ≡ b → P
    by true e = on e
    by false e = off e

module _ (names_keep : KeepsNames) (start : PosixTree) (history : List Entry) (entry : Entry) (p : Parts) (s : FileState) (x : DurableState) (pool : BlockSet) (ask : Ask) (server : Actor) (ticket : ℕ) (desc : Option Desc) (d : Desc)
    (old : map.get p.files s.file ≡ Some s) (kind : is_on_file ask.op ≡ true) (asked : IsAsk (tree_after start history) ask) (is : ask.desc ≡ Some d) (of : d.file ≡ Some s.file)
    (applied : IsApplied (durable_in p.commits s) x p.pool pool ask server ticket entry desc) (number : x.file.file ≡ s.file) (inode : x.file.inode ≡ s.inode) (parts : ArePartsOf p (tree_after start history)) where
  abbrev before : PosixTree
  before = tree_after start history

  abbrev after : PosixTree
  after = tree_after start (history ++ entry ∷ [])

  next : after ≡ goes_on before entry
  next = tree_after-append start history (entry ∷ [])

  -- the tree stays, or goes on as POSIX has it
  stays : is_excused entry.reply ≡ true → after ≡ before
  stays e = next ∙ excuse_leaves before entry.client entry.op entry.reply e

  goes : is_excused entry.reply ≡ false → after ≡ (posix before ask.client ask.op).0
  goes e = next ∙ served_goes before entry.client entry.op entry.reply e ∙ (λ i. (posix before (applied.of_ask.client i) (applied.of_ask.asked i)).0)

  stepped : is_excused entry.reply ≡ false → IsPosix before ask x.file entry.reply desc
  stepped e = applied.posix e before (parts.files s.file s old).1 asked

  pub parts_after : ArePartsOf (with_file x pool p) (tree_after start (history ++ entry ∷ []))
  parts_after = turn entry.reply (ArePartsOf (with_file x pool p) (tree_after start (history ++ entry ∷ []))) on off
    where
      on : is_excused entry.reply ≡ true → ArePartsOf (with_file x pool p) (tree_after start (history ++ entry ∷ []))
      on e = subst (ArePartsOf (with_file x pool p)) (sym (stays e))
          (parts_now p s x pool old number inode before before parts parts.names (subst (λ (y : DurableState). IsFileOf y.file before) (sym (applied.kept e)) (parts.files s.file s old).1) (λ f not. refl))

      off : is_excused entry.reply ≡ false → ArePartsOf (with_file x pool p) (tree_after start (history ++ entry ∷ []))
      off e =
          let named : IsSome (file_in ask.desc) = ap (λ (o : Option Desc). is_some (file_in o)) is ∙ ap is_some of in
          subst (ArePartsOf (with_file x pool p)) (sym (goes e))
          (parts_now p s x pool old number inode before (posix before ask.client ask.op).0 parts (names_keep p.names before ask parts.names asked kind named) (stepped e).goes_on (stepped e).others)

  -- ---- the bytes of files in the tree

  -- those of other files stay
  pub others_after : (f : ℕ) → f ≢ x.file.file → map.get after.bytes f ≡ map.get before.bytes f
  others_after f not = turn entry.reply (map.get after.bytes f ≡ map.get before.bytes f) (λ on. ap (λ (t : PosixTree). map.get t.bytes f) (stays on)) (λ off. ap (λ (t : PosixTree). map.get t.bytes f) (goes off) ∙ (stepped off).others f not)

  abbrev bytes : List ℕ
  bytes = bytes_of before.bytes s.file

  abbrev bytes_then : List ℕ
  bytes_then = bytes_of after.bytes x.file.file

  -- an excused request leaves the file
  pub kept_after : is_excused entry.reply ≡ true → whole_of bytes_then x ≡ whole_of bytes (durable_in p.commits s)
  kept_after e = λ i. whole_of (bytes_of (stays e i).bytes (number i)) (applied.kept e i)

  -- one that is served steps it
  pub served_after : is_excused entry.reply ≡ false → IsServedKept (whole_of bytes (durable_in p.commits s)) (whole_of bytes_then x) p.pool pool d ask.op entry.reply desc
  served_after e =
      let here = ap (map.get before.bytes) number ∙ tree_has before s.file s (parts.files s.file s old) in
      let step : bytes_then ≡ (file_step bytes d ask.op).bytes =
      ap (λ (t : PosixTree). bytes_of t.bytes x.file.file) (goes e) ∙ ap (λ (o : Option (List ℕ)). unwrap_or o []) ((stepped e).step d bytes is here) in
      subst (λ (bs : List ℕ). IsServedKept (whole_of bytes (durable_in p.commits s)) (whole_of bs x) p.pool pool d ask.op entry.reply desc) (sym step)
      (applied.served e d is bytes (tree_may before s.file s (parts.files s.file s old)))

-- ---- the whole

module _ (g : Geometry) (keeps : EntriesKeep g) (nothing : OthersAcknowledgeNothing) (names_keep : KeepsNames) (stands : StandsServed) (owns : OwnsServed)
    (l : Ledger) (u : BlockSet) (start : PosixTree) (history : List Entry) (entry : Entry) (k : Counts) (p : Parts) (s : FileState) (x : DurableState) (pool : BlockSet) (ask : Ask) (server : Actor) (ticket : ℕ) (desc : Option Desc) (d : Desc)
    (same : geometry_of l.superblock ≡ g) (legal : IsLegal start (history ++ entry ∷ [])) (no_commit : asks_commit entry.op ≡ false) (old : map.get p.files s.file ≡ Some s) (kind : is_on_file ask.op ≡ true)
    (asked : IsAsk (tree_after start history) ask) (is : ask.desc ≡ Some d) (of : d.file ≡ Some s.file) (applied : IsApplied (durable_in p.commits s) x p.pool pool ask server ticket entry desc) (st : IsStored l u start history k p) where
  abbrev f : DurableState
  f = durable_in p.commits s

  noted : IsNoted f
  noted = st.noted s.file s old

  -- with the tree's bytes, before the request and behind it
  abbrev w : DurableState
  w = whole_of (bytes_of (tree_after start history).bytes s.file) (durable_in p.commits s)

  abbrev w2 : DurableState
  w2 = whole_of (bytes_of (tree_after start (history ++ entry ∷ [])).bytes x.file.file) x

  whole : IsFileWhole l k.numbers w
  whole = st.each s.file s old

  apart : IsApart p.pool (blocks_held f)
  apart = pool_apart u p s old whole.once st.spaced.apart

  number : x.file.file ≡ s.file
  number = same_number f x p.pool pool noted apart ask server ticket entry desc d is applied

  inode : x.file.inode ≡ s.inode
  inode = same_inode f x p.pool pool noted apart ask server ticket entry desc d is applied

  apart_now : IsApart pool (blocks_held x)
  apart_now = goes_apart f x p.pool pool noted apart ask server ticket entry desc d is applied

  kept : is_excused entry.reply ≡ true → w2 ≡ w
  kept = kept_after names_keep start history entry p s x pool ask server ticket desc d old kind asked is of applied number inode st.parts

  served : is_excused entry.reply ≡ false → IsServedKept w w2 p.pool pool d ask.op entry.reply desc
  served = served_after names_keep start history entry p s x pool ask server ticket desc d old kind asked is of applied number inode st.parts

  parts_then : ArePartsOf (with_file x pool p) (tree_after start (history ++ entry ∷ []))
  parts_then = parts_after names_keep start history entry p s x pool ask server ticket desc d old kind asked is of applied number inode st.parts

  stands_now : (m : Ledger) → ((b : ℕ) → IsFileBlock l b → IsFileBlock m b) → StandsFor m w → StandsFor m w2
  stands_now m blocks stood = turn entry.reply (StandsFor m w2) (λ on. subst (StandsFor m) (sym (kept on)) stood)
      (λ off. stands m w w2 p.pool pool d ask.op entry.reply desc whole.noted stood (λ b pooled. blocks b (st.spaced.usable ThePool b (λ e. cc) pooled)) (served off))

  stored_now : IsFileStored l k.numbers w → IsFileStored l k.numbers w2
  stored_now (inl both) = inl (ap k.numbers.inode number ∙ both.0 ∙ ap Some (sym inode), stands_now l (λ b h. h) both.1)
  stored_now (inr both) = inr (
    ap k.numbers.inode number ∙ both.0,
    subst (λ (i : ℕ). StandsFor (with_born i l) w2) (sym inode) (stands_now (with_born s.inode l) (λ b h. record { data_block = h.data_block; no_dir = h.no_dir; unheld = h.unheld }) both.1),
  )

  -- no inode of the disk has a block of the pool
  untaken : (b : ℕ) → set.contains p.pool b ≡ true → IsTakenBlock (geometry_of l.superblock) l.now.catalog b → ⊥
  untaken b pooled (inl below) = (let from = (st.spaced.usable ThePool b (λ e. cc) pooled).data_block.from in omega (arith, below, from))
  untaken b pooled (inr (i, place, at)) = by (st.spaced.held i place b at)
    where
      by : NamesOwn p b ⊎ FileHasIt p k.numbers i b → ⊥
      by (inl names) = (let clash = st.spaced.apart ThePool TheNames b pooled names in cc)
      by (inr file) = (let clash = st.spaced.apart ThePool (OneFile file.0) b pooled file.1 in cc)

  own_now : HasOwnBlocks l w2
  own_now = turn entry.reply (HasOwnBlocks l w2) (λ on. subst (HasOwnBlocks l) (sym (kept on)) whole.own) off
    where
      off : is_excused entry.reply ≡ false → HasOwnBlocks l w2
      off e = owns l w w2 p.pool pool d ask.op entry.reply desc whole.own untaken (served e)

  noted_now : IsNoted x
  noted_now = goes_noted f x p.pool pool noted apart ask server ticket entry desc d is applied

  whole_now : IsFileWhole l k.numbers w2
  whole_now = record {
    noted = noted_as_whole x (bytes_of (tree_after start (history ++ entry ∷ [])).bytes x.file.file) noted_now (tree_may (tree_after start (history ++ entry ∷ [])) x.file.file x.file (parts_then.files x.file.file x.file (here x pool p)));
    once = apart_now.once;
    own = own_now;
    stored = stored_now whole.stored;
  }

  -- ---- each file

  abbrev parts_next : Parts
  parts_next = with_file x pool p

  abbrev bytes_at : (file : ℕ) → List ℕ
  bytes_at file = bytes_of (tree_after start (history ++ entry ∷ [])).bytes file

  itself : (r : FileState) → r ≡ x.file → durable_in (with_file x pool p).commits r ≡ x
  itself r same = ap (durable_in (with_file x pool p).commits) same ∙ durable_here x pool p

  another : (file : ℕ) (r : FileState) → file ≢ x.file.file → map.get p.files file ≡ Some r → durable_in (with_file x pool p).commits r ≡ durable_in p.commits r
  another file r not there = durable_else x pool p r (λ e. not (sym (st.parts.files file r there).0 ∙ e))

  same_bytes : (file : ℕ) → file ≢ x.file.file → bytes_at file ≡ bytes_of (tree_after start history).bytes file
  same_bytes file not = ap (λ (o : Option (List ℕ)). unwrap_or o []) (others_after names_keep start history entry p s x pool ask server ticket desc d old kind asked is of applied number inode st.parts file not)

  all_noted : (file : ℕ) (r : FileState) → map.get parts_next.files file ≡ Some r → IsNoted (durable_in parts_next.commits r)
  all_noted file r there = by (either x pool p file r there)
    where
      by : ((file ≡ x.file.file) × (r ≡ x.file)) ⊎ ((file ≢ x.file.file) × (map.get p.files file ≡ Some r)) → IsNoted (durable_in parts_next.commits r)
      by (inl both) = subst IsNoted (sym (itself r both.1)) noted_now
      by (inr both) = subst IsNoted (sym (another file r both.0 both.1)) (st.noted file r both.1)

  each_now : (file : ℕ) (r : FileState) → map.get parts_next.files file ≡ Some r → IsFileWhole l k.numbers (whole_of (bytes_at file) (durable_in parts_next.commits r))
  each_now file r there = by (either x pool p file r there)
    where
      by : ((file ≡ x.file.file) × (r ≡ x.file)) ⊎ ((file ≢ x.file.file) × (map.get p.files file ≡ Some r)) → IsFileWhole l k.numbers (whole_of (bytes_at file) (durable_in parts_next.commits r))
      by (inl both) = subst (IsFileWhole l k.numbers) (sym (λ i. whole_of (bytes_at (both.0 i)) (itself r both.1 i))) whole_now
      by (inr both) = subst (IsFileWhole l k.numbers) (sym (λ i. whole_of (same_bytes file both.0 i) (another file r both.0 both.1 i))) (st.each file r both.1)

  pub file_entry_kept : IsStored l u start (history ++ entry ∷ []) k (with_file x pool p)
  file_entry_kept = record {
    tree = st.tree;
    legal = legal;
    kept = (let ack = nothing start history entry k.names k.files (inr no_commit) in ledger_kept g keeps l start history entry k k same st.tree legal ack ack st.kept);
    parts = parts_then;
    names = st.names;
    counted = counted_still start history entry k st.kept.here.stored.made st.counted;
    noted = all_noted;
    each = each_now;
    spaced = spaced_now l u k.numbers p s x pool old number apart_now
        (goes_together f x p.pool pool noted apart ask server ticket entry desc d is applied)
        (goes_within f x p.pool pool noted apart ask server ticket entry desc d is applied)
        (λ n r there. (st.parts.files n r there).0) st.spaced;
  }
