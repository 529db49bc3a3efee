-- Requests on a file with what is known of its commits.
use Rattle.std.proofs.Common.{◌≡◌, ℕ, ◌-◌, ◌<◌, ◌≤◌, Bool, true, false, ◌||◌, List, [], ◌∷◌, ◌++◌, Option, Some, None, length, take, drop, ltb, ap, sym, refl, ◌∙◌, arith, subst, append_assoc}
use Rattle.std.specs.FinSet as set
use Rattle.std.specs.List.{IsDistinct, slice_get}
use Rattle.std.specs.Prelude.{nat_eq}
use Rattle.std.proofs.lemmas.Bool.{ltb-true, ltb-false}
use Rattle.std.proofs.lemmas.List.{take-append-drop, take_at}
use Rattle.ufs_base.specs.declared.sizes.TheConstants.{MAX_EXTENTS}
use Rattle.ufs_bitmap.specs.Blocks.{BlockSet}
use Rattle.ufs_bitmap.specs.Taking.{IsApart, Takes, has, set_of}
use Rattle.ufs_bitmap.proofs.SetLemmas.{has-union, same_blocks}
use Rattle.ufs_bitmap.proofs.TakingLemmas.{distinct-append, distinct_apart, distinct_back, distinct_front, has-append, takes_all}
use Rattle.ufs_extent.specs.declared.Run.{Run}
use Rattle.ufs_extent.specs.Runs.{appended_all, blocks_of, last_runs}
use Rattle.ufs_extent.proofs.PlaceLemmas.{blocks_of-first_runs, blocks_of-last_runs}
use Rattle.ufs_extent.proofs.RunLemmas.{blocks_of-append}
use Rattle.ufs_file.specs.Content.{Content, IsContentOf, block_count, own_bytes}
use Rattle.ufs_file.specs.Hand.{FileState, IsCause, IsEntryOf, IsExcusedFor, IsFileOf, IsOf, IsPosix, IsServedByFile, LacksExtents, content_after, content_by, missing, whole_as}
use Rattle.ufs_file.proofs.FilledLemmas.{excused_any, same_refusal}
use Rattle.ufs_file.proofs.HandLemmas.{apart_taken, blocks_of-all}
use Rattle.ufs_file.proofs.UnreadLemmas.{content_itself}
use Rattle.ufs_ilog.specs.Deltas.{FileLog}
use Rattle.ufs_model.specs.Asks.{IsAsk}
use Rattle.ufs_model.specs.Excuses.{ExcuseFits}
use Rattle.ufs_model.specs.FileCalls.{file_refusal, file_step}
use Rattle.ufs_model.specs.History.{is_excused}
use Rattle.ufs_model.specs.PosixTree.{PosixTree}
use Rattle.ufs_model.specs.declared.data.Actor.{Actor}
use Rattle.ufs_model.specs.declared.data.Ask.{Ask}
use Rattle.ufs_model.specs.declared.data.Desc.{Desc}
use Rattle.ufs_model.specs.declared.data.Entry.{Entry}
use Rattle.ufs_model.specs.declared.data.Errno.{Errno}
use Rattle.ufs_model.specs.declared.data.Excuse.{Excuse}
use Rattle.ufs_model.specs.declared.data.Excuse.TheVariants as excuse
use Rattle.ufs_model.specs.declared.data.Op.{Op}
use Rattle.ufs_model.specs.declared.data.Reply.{Reply}
use Rattle.ufs_model.specs.declared.data.Reply.TheVariants as reply
use Rattle.ufs_file_commits.specs.Serving.{DropsOnly, IsApplied, IsServedKept, TakesOnly, TakesOrDrops, content_behind, noted_as}
use Rattle.ufs_file_commits.specs.State.{CommitState, DurableState, IsNoted, blocks_held, state_of, whole_of}

-- ---- owners in another order

turned : (x y z : Bool) → ((x || y) || z) ≡ ((x || z) || y)
turned true y z = refl
turned false true true = refl
turned false true false = refl
turned false false true = refl
turned false false false = refl

has-three : (xs ys zs : List ℕ) (q : ℕ) → has ((xs ++ ys) ++ zs) q ≡ ((has xs q || has ys q) || has zs q)
has-three xs ys zs q = has-append (xs ++ ys) zs q ∙ ap (λ (b : Bool). b || has zs q) (has-append xs ys q)

has-turned : (xs ys zs : List ℕ) (q : ℕ) → has ((xs ++ ys) ++ zs) q ≡ has ((xs ++ zs) ++ ys) q
has-turned xs ys zs q = has-three xs ys zs q ∙ turned (has xs q) (has ys q) (has zs q) ∙ sym (has-three xs zs ys q)

pub apart_turned : (pool : BlockSet) (xs ys zs : List ℕ) → IsApart pool ((xs ++ ys) ++ zs) → IsApart pool ((xs ++ zs) ++ ys)
apart_turned pool xs ys zs h = record {
  absent = λ b e. h.absent b (has-turned xs ys zs b ∙ e);
  once = distinct-append (xs ++ zs) ys (distinct-append xs zs (distinct_front xs ys front) (distinct_back (xs ++ ys) zs h.once) (λ q e. off_behind q (has-append xs ys q ∙ ap (λ (b : Bool). b || has ys q) e)))
      (distinct_back xs ys front) (λ q e. by q (has xs q) (has ys q) refl refl (sym (has-append xs zs q) ∙ e));
}
  where
    front : IsDistinct nat_eq (xs ++ ys)
    front = distinct_front (xs ++ ys) zs h.once

    off_behind : (q : ℕ) → has (xs ++ ys) q ≡ true → has zs q ≡ false
    off_behind q e = distinct_apart (xs ++ ys) zs h.once q e

    or_true : (b : Bool) → (b || true) ≡ true
    or_true true = refl
    or_true false = refl

    by : (q : ℕ) (x y : Bool) → has xs q ≡ x → has ys q ≡ y → (has xs q || has zs q) ≡ true → has ys q ≡ false
    by q x false ex ey e = ey
    by q true true ex ey e = distinct_apart xs ys front q ex
    by q false true ex ey e =
        let none = off_behind q (has-append xs ys q ∙ ap (λ (b : Bool). has xs q || b) ey ∙ or_true (has xs q)) in
        let wrong : false ≡ true = sym (λ i. ex i || none i) ∙ e in
        absurd cc

-- ---- what a file alone was answered

-- These are the clauses of `FileHand::apply`, name by name, so that what a call ensures is this as it stands.
abbrev pub IsAlone : (old new : FileState) (before after : BlockSet) (ask : Ask) (server : Actor) (ticket : ℕ) (told : Entry) (left : Option Desc) → Type 0
IsAlone old new before after ask server ticket told left = record {
  entry : IsEntryOf ask server ticket told;
  served : is_excused told.reply ≡ false → (d : Desc) → ask.desc ≡ Some d → IsServedByFile old new before after d ask.op told.reply left;
  excused : (x : Excuse) → told.reply ≡ reply.Excused x → (d : Desc) → ask.desc ≡ Some d → IsExcusedFor old d ask.op before x;
  any : is_excused told.reply ≡ false → (d : Desc) → ask.desc ≡ Some d → (bytes : List ℕ) → IsContentOf old.content bytes
      → IsServedByFile (whole_as bytes old) (whole_as (file_step bytes d ask.op).bytes new) before after d ask.op told.reply left;
  goes_on : is_excused told.reply ≡ false → (d : Desc) → ask.desc ≡ Some d → (bytes : List ℕ) → IsContentOf old.content bytes → IsContentOf new.content (file_step bytes d ask.op).bytes;
  away : is_excused told.reply ≡ false → (d : Desc) → ask.desc ≡ Some d → (bytes : List ℕ) → IsContentOf old.content bytes → (place : ℕ) → slice_get new.content.there place ≡ Some false
      → (slice_get old.content.there place ≡ Some false) × (own_bytes (file_step bytes d ask.op).bytes place ≡ own_bytes bytes place);
  any_excused : (x : Excuse) → told.reply ≡ reply.Excused x → (d : Desc) → ask.desc ≡ Some d → (bytes : List ℕ) → IsContentOf old.content bytes → IsExcusedFor (whole_as bytes old) d ask.op before x;
  posix : is_excused told.reply ≡ false → (t : PosixTree) → IsFileOf old t → IsAsk t ask → IsPosix t ask new told.reply left;
  fits : (x : Excuse) → told.reply ≡ reply.Excused x → (t : PosixTree) → IsFileOf old t → IsAsk t ask → ExcuseFits t ask.client ask.op x;
  number : new.file ≡ old.file;
  inode : new.inode ≡ old.inode;
  together : set.union after (set_of new.extents) ≡ set.union before (set_of old.extents);
  few : length new.extents ≤ MAX_EXTENTS;
  file : is_excused told.reply ≡ true → new ≡ old;
  pool : is_excused told.reply ≡ true → after ≡ before;
  desc : is_excused told.reply ≡ true → left ≡ ask.desc;
  apart : IsApart after (blocks_of new.extents);
}

-- The file has its marks.
pub record IsMarked (f : FileState) : Type 0 where
  pub marks : length f.content.dirty ≡ length (blocks_of f.extents)
  pub held : length f.content.there ≡ length f.content.dirty
  pub written : (place : ℕ) → slice_get f.content.dirty place ≡ Some true → slice_get f.content.there place ≡ Some true

-- a request that is of the file has a descriptor
pub desc_there : (o : Option Desc) (file : ℕ) → IsOf o file → (d : Desc) × (o ≡ Some d)
desc_there None file wrong = absurd wrong
desc_there (Some d) file is = (d, refl)

-- It notes no more of the bytes than how many there are.
noted_alike : (f : FileState) (log : FileLog) (bytes : List ℕ) → IsContentOf f.content bytes → noted_as f log ≡ noted_as (whole_as bytes f) log
noted_alike f log bytes may = λ i. record log { noted = record { runs = f.extents; size = sym may.long i } }

-- the log has the file already
logged_already : (f : DurableState) → IsNoted f → noted_as f.file f.log ≡ f.log
logged_already f noted = λ i. record { inode = f.log.inode; committed = f.log.committed; noted = record { runs = sym noted.runs i; size = sym noted.size i } }

not_both : (r : Reply) → is_excused r ≡ false → is_excused r ≡ true → ⊥
not_both r off on = let e : false ≡ true = sym off ∙ on in absurd cc

-- a request that isn't refused alone changes how many blocks there are
pub allowed_where_changed : (f : FileState) (d : Desc) (request : Op) → length (blocks_of f.extents) ≡ block_count (length f.content.bytes)
    → (length (blocks_of f.extents) ≡ block_count (length (content_behind f d request).bytes) → ⊥) → file_refusal f.content.bytes d request ≡ None
allowed_where_changed f d request whole changed = by (file_refusal f.content.bytes d request) refl
  where
    by : (o : Option Errno) → file_refusal f.content.bytes d request ≡ o → file_refusal f.content.bytes d request ≡ None
    by None e = e
    by (Some x) e = absurd (changed (whole ∙ ap (λ (o : Option Errno). block_count (length (content_by f.content d request o).bytes)) (sym e)))

-- Memory ran out before anything changed.
pub applied_not : (f : DurableState) (pool : BlockSet) (ask : Ask) (server : Actor) (ticket : ℕ) (entry : Entry) (desc : Option Desc) → IsEntryOf ask server ticket entry
    → entry.reply ≡ reply.Excused excuse.Memory → desc ≡ ask.desc → IsNoted f → length f.file.extents ≤ MAX_EXTENTS
    → ((d : Desc) → ask.desc ≡ Some d → file_refusal f.file.content.bytes d ask.op ≡ None) → IsApplied f f pool pool ask server ticket entry desc
applied_not f pool ask server ticket entry desc of_ask told same noted few allowed =
    let on : is_excused entry.reply ≡ true = ap is_excused told in
    record {
      of_ask = of_ask;
      served = λ off. absurd (not_both entry.reply off on);
      goes_on = λ off. absurd (not_both entry.reply off on);
      excused = λ x e d is bytes may. let both : reply.Excused excuse.Memory ≡ reply.Excused x = sym told ∙ e in
          let one : excuse.Memory ≡ x = cc in
          subst (IsExcusedFor (whole_as bytes f.file) d ask.op pool) one (record { allowed = same_refusal bytes f.file.content.bytes d ask.op may.long ∙ allowed d is; cause = tt });
      posix = λ off. absurd (not_both entry.reply off on);
      fits = λ x e t is asks. let both : reply.Excused excuse.Memory ≡ reply.Excused x = sym told ∙ e in
          let one : excuse.Memory ≡ x = cc in
          subst (ExcuseFits t ask.client ask.op) one (record { due = λ (e : true ≡ false). absurd cc; told = tt });
      few = few;
      marks = noted.marks;
      held = noted.held;
      written = noted.written;
      away = λ off. absurd (not_both entry.reply off on);
      kept = λ e. refl;
      pool = λ e. refl;
      same_desc = λ e. same;
    }

module _ (f : DurableState) (new : FileState) (before after : BlockSet) (ask : Ask) (server : Actor) (ticket : ℕ) (entry : Entry) (desc : Option Desc) (noted : IsNoted f)
    (alone : IsAlone f.file new before after ask server ticket entry desc) where
  applied_taking : IsMarked new → ((d : Desc) → ask.desc ≡ Some d → length (blocks_of f.file.extents) ≤ block_count (length (content_behind f.file d ask.op).bytes))
      → IsApplied f (record { file = new; log = noted_as new f.log; dropped = f.dropped }) before after ask server ticket entry desc
  applied_taking marks most = record {
    of_ask = alone.entry;
    served = λ off d is bytes may. let s = alone.any off d is bytes may in let goes = alone.goes_on off d is bytes may in record {
      replied = s.replied;
      told = s.told;
      bytes = s.bytes;
      memory = s.memory;
      same_file = s.same_file;
      same_inode = s.same_inode;
      blocks = record {
        more = λ le. record { taken = s.blocks.more le; dropped = refl };
        fewer = λ less. let long = most d is in
            let same = ap block_count goes.long ∙ ap (λ (c : Content). block_count (length c.bytes)) (alone.served off d is).memory in absurd (omega (arith, less, long, same));
      };
      logged = noted_alike new f.log (file_step bytes d ask.op).bytes goes;
    };
    goes_on = alone.goes_on;
    excused = alone.any_excused;
    posix = alone.posix;
    fits = alone.fits;
    few = alone.few;
    marks = marks.marks;
    held = marks.held;
    written = marks.written;
    away = alone.away;
    kept = λ e. λ i. record { file = alone.file e i; log = (ap (λ (x : FileState). noted_as x f.log) (alone.file e) ∙ logged_already f noted) i; dropped = f.dropped };
    pool = alone.pool;
    same_desc = alone.desc;
  }

  -- The file keeps its blocks, and maybe takes some.
  pub noted_taking : (commits : CommitState) → commits ≡ record { log = noted_as new f.log; dropped = f.dropped } → IsMarked new
      → ((d : Desc) → ask.desc ≡ Some d → length (blocks_of f.file.extents) ≤ block_count (length (content_behind f.file d ask.op).bytes)) → IsApplied f (state_of new commits) before after ask server ticket entry desc
  noted_taking commits known marks most = subst (λ (x : CommitState). IsApplied f (state_of new x) before after ask server ticket entry desc) (sym known) (applied_taking marks most)

  -- Where it keeps just those, they lie where they lay.
  pub extents_stay : (d : Desc) → ask.desc ≡ Some d → length (blocks_of f.file.extents) ≡ block_count (length (content_behind f.file d ask.op).bytes) → new.extents ≡ f.file.extents
  extents_stay d is whole = by (is_excused entry.reply) refl
    where
      from_none : (n : ℕ) (runs : List Run) → n ≡ 0 → Takes before n runs after 0 → new.extents ≡ appended_all f.file.extents runs → new.extents ≡ f.file.extents
      from_none n [] none turn e = e
      from_none n (r ∷ rs) none turn e = (let some = turn.0 in absurd (omega (arith, some, none)))

      by : (b : Bool) → is_excused entry.reply ≡ b → new.extents ≡ f.file.extents
      by true e = ap (λ (x : FileState). x.extents) (alone.file e)
      by false e =
          let s = alone.served e d is in
          let same : length (blocks_of f.file.extents) ≡ block_count (length new.content.bytes) = whole ∙ ap (λ (c : Content). block_count (length c.bytes)) (sym s.memory) in
          let t = s.blocks.more (omega (arith, same)) in
          from_none (block_count (length new.content.bytes) - length (blocks_of f.file.extents)) t.runs (omega (arith, same)) t.in_turn t.extents

-- Nothing is taken from a pool of which nothing is wanted, and from no other.
any_pool : (runs : List Run) (wanted : ℕ) (one other : BlockSet) (x : Excuse) → wanted ≡ 0 → IsCause runs wanted one x → IsCause runs wanted other x
any_pool runs wanted one other excuse.Memory none cause = tt
any_pool runs wanted one other (excuse.Device fault) none cause = cause
any_pool runs wanted one other (excuse.Stopped fault) none cause = cause
any_pool runs wanted one other excuse.Inodes none cause = cause
any_pool runs wanted one other (excuse.Blocks need had) none cause = (let fewer = cause.fewer in let needed = cause.needed in absurd (omega (arith, fewer, needed, none)))
any_pool runs wanted one other (excuse.Extents need) none cause = by cause.runs cause.in_turn cause.counted
  where
    by : (taken : List Run) → Takes one wanted taken cause.left 0 → need ≡ length (appended_all runs taken) → LacksExtents runs wanted other need
    by [] turn counted = record { left = other; runs = []; in_turn = (refl, none); counted = counted; more = cause.more }
    by (r ∷ rs) turn counted = (let some = turn.0 in absurd (omega (arith, some, none)))

module _ (f : DurableState) (new : FileState) (own left : BlockSet) (ask : Ask) (server : Actor) (ticket : ℕ) (entry : Entry) (desc : Option Desc) (noted : IsNoted f)
    (alone : IsAlone f.file new own left ask server ticket entry desc) (marks : IsMarked new)
    (count : ℕ) (fewer : count < length (blocks_of f.file.extents)) (is_count : (d : Desc) → ask.desc ≡ Some d → count ≡ block_count (length (content_behind f.file d ask.op).bytes)) (pool : BlockSet) where
  -- The file keeps so many blocks and drops the others.
  pub applied_cutting : is_excused entry.reply ≡ false → IsApplied f (record { file = new; log = noted_as new f.log; dropped = f.dropped ++ last_runs f.file.extents count }) pool pool ask server ticket entry desc
  applied_cutting off = record {
    of_ask = alone.entry;
    served = λ _ d is bytes may. let s = alone.any off d is bytes may in let goes = alone.goes_on off d is bytes may in
        let same : count ≡ block_count (length (file_step bytes d ask.op).bytes) =
        is_count d is ∙ ap (λ (c : Content). block_count (length c.bytes)) (sym (alone.served off d is).memory) ∙ ap block_count (sym goes.long) in
        record {
          replied = s.replied;
          told = s.told;
          bytes = s.bytes;
          memory = s.memory;
          same_file = s.same_file;
          same_inode = s.same_inode;
          blocks = record {
            more = λ le. absurd (omega (arith, le, fewer, same));
            fewer = λ less. record { extents = (s.blocks.fewer less).extents; dropped = ap (λ (n : ℕ). f.dropped ++ last_runs f.file.extents n) same; pool = refl };
          };
          logged = noted_alike new f.log (file_step bytes d ask.op).bytes goes;
        };
    goes_on = alone.goes_on;
    excused = λ x e. absurd (not_both entry.reply off (ap is_excused e));
    posix = alone.posix;
    fits = alone.fits;
    few = alone.few;
    marks = marks.marks;
    held = marks.held;
    written = marks.written;
    away = alone.away;
    kept = λ e. absurd (not_both entry.reply off e);
    pool = λ e. refl;
    same_desc = alone.desc;
  }

  same_excuse : (x : Excuse) → entry.reply ≡ reply.Excused x → (d : Desc) → ask.desc ≡ Some d → IsExcusedFor f.file d ask.op pool x
  same_excuse x e d is = let was = alone.excused x e d is in let same = is_count d is in record {
    allowed = was.allowed;
    cause =
        (let goes : block_count (length (content_behind f.file d ask.op).bytes) ≡ block_count (length (content_after f.file.content d ask.op).bytes) =
        ap (λ (o : Option Errno). block_count (length (content_by f.file.content d ask.op o).bytes)) was.allowed in
        any_pool f.file.extents (missing f.file d ask.op) own pool x (omega (arith, fewer, same, goes)) was.cause);
  }

  -- Memory ran out for it, and what was dropped already isn't.
  pub applied_uncut : length (blocks_of f.file.extents) ≡ block_count (length f.file.content.bytes) → (rest : List Run) → is_excused entry.reply ≡ true → IsApplied f (record { file = new; log = f.log; dropped = take (length f.dropped) (f.dropped ++ rest) }) pool pool ask server ticket entry desc
  applied_uncut sized rest on = record {
    of_ask = alone.entry;
    served = λ off. absurd (not_both entry.reply off on);
    goes_on = λ off. absurd (not_both entry.reply off on);
    excused = λ x e d is. excused_any f.file d ask.op pool x (same_excuse x e d is) (noted.held ∙ noted.marks ∙ sized);
    posix = alone.posix;
    fits = alone.fits;
    few = alone.few;
    marks = marks.marks;
    held = marks.held;
    written = marks.written;
    away = λ off. absurd (not_both entry.reply off on);
    kept = λ e. λ i. record { file = alone.file e i; log = f.log; dropped = take_at f.dropped rest (length f.dropped) refl i };
    pool = λ e. refl;
    same_desc = alone.desc;
  }

-- ---- what follows of it

-- the file's own blocks are apart too
pub own_apart : (pool : BlockSet) (xs ys : List ℕ) → IsApart pool (xs ++ ys) → IsApart pool xs
own_apart pool xs ys h = record {
  absent = λ b e. h.absent b (has-append xs ys b ∙ ap (λ (x : Bool). x || has ys b) e);
  once = distinct_front xs ys h.once;
}

moved_over : (a x r y : Bool) → (a || ((x || r) || y)) ≡ ((a || r) || (x || y))
moved_over true x r y = refl
moved_over false true true y = refl
moved_over false true false y = refl
moved_over false false true y = refl
moved_over false false false y = refl

or_left : (x y b : Bool) → b ≡ (x || y) → x ≡ true → b ≡ true
or_left x y b e is = e ∙ ap (λ (c : Bool). c || y) is

-- It is the file that it was, its log notes it, the pool gets no block, and none is lost or has two owners.
pub record Follows (f g : DurableState) (before after : BlockSet) : Type 0 where
  pub number : g.file.file ≡ f.file.file
  pub inode : g.file.inode ≡ f.file.inode
  pub noted : IsNoted g
  pub committed : g.log.committed ≡ f.log.committed
  pub together : set.union after (set.from_list (blocks_held g)) ≡ set.union before (set.from_list (blocks_held f))
  pub taken : (block : ℕ) → set.contains after block ≡ true → set.contains before block ≡ true
  pub apart : IsApart after (blocks_held g)

module _ (f g : DurableState) (before after : BlockSet) (noted : IsNoted f) (apart : IsApart before (blocks_held f)) where
  abbrev own : List ℕ
  own = blocks_of f.file.extents

  abbrev dropped : List ℕ
  dropped = blocks_of f.dropped

  module _ (n : ℕ) (t : TakesOnly f g before after n) where
    abbrev fresh : List ℕ
    fresh = blocks_of t.taken.runs

    taken_is : blocks_held g ≡ (own ++ fresh) ++ dropped
    taken_is = λ i. (ap blocks_of t.taken.extents ∙ blocks_of-all f.file.extents t.taken.runs) i ++ blocks_of (t.dropped i)

    apart_behind_take : IsApart after (blocks_held g)
    apart_behind_take = subst (IsApart after) (sym taken_is) (apart_turned after own dropped fresh (apart_taken before (own ++ dropped) n t.taken.runs after 0 apart t.taken.in_turn))

    together_behind_take : set.union after (set.from_list (blocks_held g)) ≡ set.union before (set.from_list (blocks_held f))
    together_behind_take = same_blocks _ _ (λ q.
        has-union after (set.from_list (blocks_held g)) q
        ∙ ap (λ (l : List ℕ). set.contains after q || has l q) taken_is
        ∙ ap (λ (b : Bool). set.contains after q || b) (has-three own fresh dropped q)
        ∙ moved_over (set.contains after q) (has own q) (has fresh q) (has dropped q)
        ∙ (λ i. sym (takes_all before n t.taken.runs after 0 t.taken.in_turn q) i || sym (has-append own dropped q) i)
        ∙ sym (has-union before (set.from_list (blocks_held f)) q))

    within_take : (q : ℕ) → set.contains after q ≡ true → set.contains before q ≡ true
    within_take q e = or_left (set.contains after q) (has fresh q) (set.contains before q) (takes_all before n t.taken.runs after 0 t.taken.in_turn q) e

  module _ (n : ℕ) (t : DropsOnly f g before after n) where
    abbrev kept : List ℕ
    kept = take n own

    abbrev rest : List ℕ
    rest = drop n own

    was : blocks_held f ≡ (kept ++ rest) ++ dropped
    was = ap (λ (l : List ℕ). l ++ dropped) (sym (take-append-drop n own))

    dropped_is : blocks_held g ≡ (kept ++ dropped) ++ rest
    dropped_is = (λ i. (ap blocks_of t.extents ∙ blocks_of-first_runs f.file.extents n) i
        ++ (ap blocks_of t.dropped ∙ blocks_of-append f.dropped (last_runs f.file.extents n) ∙ ap (λ (l : List ℕ). dropped ++ l) (blocks_of-last_runs f.file.extents n)) i)
        ∙ sym (append_assoc kept dropped rest)

    apart_behind_drop : IsApart after (blocks_held g)
    apart_behind_drop = subst (λ (p : BlockSet). IsApart p (blocks_held g)) (sym t.pool) (subst (IsApart before) (sym dropped_is) (apart_turned before kept rest dropped (subst (IsApart before) was apart)))

    together_behind_drop : set.union after (set.from_list (blocks_held g)) ≡ set.union before (set.from_list (blocks_held f))
    together_behind_drop = ap (λ (p : BlockSet). set.union p (set.from_list (blocks_held g))) t.pool ∙ same_blocks _ _ (λ q.
        has-union before (set.from_list (blocks_held g)) q
        ∙ ap (λ (b : Bool). set.contains before q || b) (ap (λ (l : List ℕ). has l q) dropped_is ∙ has-turned kept dropped rest q ∙ ap (λ (l : List ℕ). has l q) (sym was))
        ∙ sym (has-union before (set.from_list (blocks_held f)) q))

  -- whichever bytes the files have
  own_blocks : (xs ys : List ℕ) (n : ℕ) → TakesOrDrops (whole_of xs f) (whole_of ys g) before after n → TakesOrDrops f g before after n
  own_blocks xs ys n h = record {
    more = λ le. let t = h.more le in record { taken = t.taken; dropped = t.dropped };
    fewer = λ less. let t = h.fewer less in record { extents = t.extents; dropped = t.dropped; pool = t.pool };
  }

  module _ (n : ℕ) (has_them : TakesOrDrops f g before after n) where
    turn : (P : Type 0) → (length own ≤ n → P) → (n < length own → P) → P
    turn P more fewer = by (ltb n (length own)) refl
      where
        by : (b : Bool) → ltb n (length own) ≡ b → P
        by true e = fewer (ltb-true n (length own) e)
        by false e = more (ltb-false n (length own) e)

    apart_behind : IsApart after (blocks_held g)
    apart_behind = turn (IsApart after (blocks_held g)) (λ le. apart_behind_take (n - length own) (has_them.more le)) (λ less. apart_behind_drop n (has_them.fewer less))

    together_behind : set.union after (set.from_list (blocks_held g)) ≡ set.union before (set.from_list (blocks_held f))
    together_behind = turn (set.union after (set.from_list (blocks_held g)) ≡ set.union before (set.from_list (blocks_held f))) (λ le. together_behind_take (n - length own) (has_them.more le)) (λ less. together_behind_drop n (has_them.fewer less))

    within : (q : ℕ) → set.contains after q ≡ true → set.contains before q ≡ true
    within q e = turn (set.contains before q ≡ true) (λ le. within_take (n - length own) (has_them.more le) q e) (λ less. sym (ap (λ (p : BlockSet). set.contains p q) (has_them.fewer less).pool) ∙ e)

  module _ (ask : Ask) (server : Actor) (ticket : ℕ) (entry : Entry) (desc : Option Desc) (d : Desc) (is : ask.desc ≡ Some d) (applied : IsApplied f g before after ask server ticket entry desc) where
    -- the bytes that it may have behind the request
    abbrev left : List ℕ
    left = (file_step f.file.content.bytes d ask.op).bytes

    -- excused or served
    either : (P : Type 0) → (g ≡ f → after ≡ before → P) → (IsServedKept (whole_of f.file.content.bytes f) (whole_of left g) before after d ask.op entry.reply desc → IsContentOf g.file.content left → P) → P
    either P none some = by (is_excused entry.reply) refl
      where
        by : (b : Bool) → is_excused entry.reply ≡ b → P
        by true e = none (applied.kept e) (applied.pool e)
        by false e = some (applied.served e d is f.file.content.bytes (content_itself f.file.content)) (applied.goes_on e d is f.file.content.bytes (content_itself f.file.content))

    pub goes_apart : IsApart after (blocks_held g)
    goes_apart = either (IsApart after (blocks_held g)) (λ same pool. subst (λ (p : BlockSet). IsApart p (blocks_held g)) (sym pool) (subst (λ (x : DurableState). IsApart before (blocks_held x)) (sym same) apart))
        (λ s goes. apart_behind (block_count (length left)) (own_blocks f.file.content.bytes left (block_count (length left)) s.blocks))

    pub goes_together : set.union after (set.from_list (blocks_held g)) ≡ set.union before (set.from_list (blocks_held f))
    goes_together = either (set.union after (set.from_list (blocks_held g)) ≡ set.union before (set.from_list (blocks_held f))) (λ same pool. λ i. set.union (pool i) (set.from_list (blocks_held (same i))))
        (λ s goes. together_behind (block_count (length left)) (own_blocks f.file.content.bytes left (block_count (length left)) s.blocks))

    pub goes_within : (q : ℕ) → set.contains after q ≡ true → set.contains before q ≡ true
    goes_within q e = either (set.contains before q ≡ true) (λ same pool. sym (ap (λ (p : BlockSet). set.contains p q) pool) ∙ e) (λ s goes. within (block_count (length left)) (own_blocks f.file.content.bytes left (block_count (length left)) s.blocks) q e)

    pub same_number : g.file.file ≡ f.file.file
    same_number = either (g.file.file ≡ f.file.file) (λ same pool. ap (λ (x : DurableState). x.file.file) same) (λ s goes. s.same_file)

    pub same_inode : g.file.inode ≡ f.file.inode
    same_inode = either (g.file.inode ≡ f.file.inode) (λ same pool. ap (λ (x : DurableState). x.file.inode) same) (λ s goes. s.same_inode)

    pub same_committed : g.log.committed ≡ f.log.committed
    same_committed = either (g.log.committed ≡ f.log.committed) (λ same pool. ap (λ (x : DurableState). x.log.committed) same) (λ s goes. ap (λ (l : FileLog). l.committed) s.logged)

    pub goes_noted : IsNoted g
    goes_noted = either (IsNoted g) (λ same pool. subst IsNoted (sym same) noted) (λ s goes. record {
      inode = ap (λ (l : FileLog). l.inode) s.logged ∙ noted.inode ∙ sym s.same_inode;
      runs = ap (λ (l : FileLog). l.noted.runs) s.logged;
      size = ap (λ (l : FileLog). l.noted.size) s.logged ∙ goes.long;
      marks = applied.marks;
      held = applied.held;
      written = applied.written;
      apart = record {
        absent = λ b e. distinct_apart (blocks_of g.file.extents) (blocks_of g.dropped) goes_apart.once b e;
        once = distinct_front (blocks_of g.file.extents) (blocks_of g.dropped) goes_apart.once;
      };
    })

    pub follows : Follows f g before after
    follows = record {
      number = same_number;
      inode = same_inode;
      noted = goes_noted;
      committed = same_committed;
      together = goes_together;
      taken = goes_within;
      apart = goes_apart;
    }
