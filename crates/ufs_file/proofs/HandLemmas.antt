-- A file's blocks and content, as it is lengthened, cut and written.
use Rattle.std.proofs.Common.{◌≡◌, ℕ, ◌+◌, ◌-◌, ◌/◌, ◌%◌, ◌≤◌, ◌<◌, eqb, ltb, Bool, true, false, cond, ◌||◌, Option, Some, None, List, [], ◌∷◌, ◌++◌, length, take, drop, replicate, max, refl, sym, ap, ◌∙◌, arith, subst, length-append}
use Rattle.std.specs.FinSet as set
use Rattle.std.proofs.lemmas.Bool.{cond-true, cond-false, ne_eqb, eqb-true, eqb-false, lt-ltb, le-ltb, ltb-true, ltb-false}
use Rattle.std.proofs.lemmas.List.{length-take-le, length-replicate, take-append-drop, append-nil, take_at, take_all, take-append-le}
use Rattle.ufs_model.specs.FileBytes.{put_at, resized, place_of}
use Rattle.ufs_extent.specs.declared.Run.{Run}
use Rattle.ufs_extent.specs.Runs.{blocks_in, blocks_of, end_of, appended, appended_all, first_runs, last_runs}
use Rattle.ufs_extent.proofs.RunLemmas.{length-blocks_of, blocks_of-appended, length-appended_all}
use Rattle.ufs_extent.proofs.PlaceLemmas.{first_runs-all, last_runs-all, blocks_of-first_runs, blocks_of-last_runs}
use Rattle.ufs_bitmap.specs.Blocks.{BlockSet}
use Rattle.ufs_bitmap.proofs.SetLemmas.{has-union, same_blocks}
use Rattle.ufs_file.specs.Lists.{over}
use Rattle.ufs_file.specs.Content.{Content, IsContentOf, block_count, covered, grown, written_over, marks_cut, shortened}
use Rattle.ufs_bitmap.specs.Taking.{Takes, IsApart, set_of, has}
use Rattle.ufs_file.specs.Hand.{FileState, HasBlocks, IsChanged, IsServedByFile, lengthened, content_put, content_after, content_by, IsOf, IsPosix, whole_as}
use Rattle.ufs_model.specs.FileCalls.{IsFileIn, Step, StepsArePosix, is_on_file, file_refusal, file_answer, file_step, step_by, desc_after, bytes_after}
use Rattle.ufs_model.specs.History.{is_excused}
use Rattle.ufs_model.specs.declared.data.Desc.{Desc}
use Rattle.ufs_model.specs.declared.data.Errno.{Errno}
use Rattle.ufs_model.specs.declared.data.Op.{Op}
use Rattle.ufs_model.specs.declared.data.Op.TheVariants as op
use Rattle.ufs_model.specs.declared.data.Reply.{Reply}
use Rattle.ufs_calls.proofs.ByteLemmas.{put_over_is}
use Rattle.ufs_file.proofs.OverLemmas.{length-over}
use Rattle.ufs_bitmap.proofs.TakingLemmas.{takes_absent, takes_all, takes_apart, distinct-append, distinct_back, distinct_front, distinct_apart, has-append, union_end}
use Rattle.std.proofs.Common.{append_assoc}
use Rattle.std.specs.FinMap as map
use Rattle.ufs_model.specs.PosixTree.{PosixTree}
use Rattle.ufs_model.specs.Posix.{posix}
use Rattle.ufs_model.specs.Asks.{IsAsk, IsDescAfter, fd_named}
use Rattle.ufs_model.specs.declared.data.Ask.{Ask}

-- ---- apart

-- the blocks that a pool gave stand behind those that were apart from it
pub apart_taken : (before : BlockSet) (bs : List ℕ) (want : ℕ) (rs : List Run) (after : BlockSet) (left : ℕ) → IsApart before bs → Takes before want rs after left → IsApart after (bs ++ blocks_of rs)
apart_taken before bs want rs after left h t = record {
  absent = λ b e. by b (has bs b) refl (sym (has-append bs (blocks_of rs) b) ∙ e);
  once = distinct-append bs (blocks_of rs) h.once (takes_apart before want rs after left t).once (λ q e. (takes_absent before want rs after left t q (h.absent q e)).1);
}
  where
    by : (b : ℕ) (x : Bool) → has bs b ≡ x → (has bs b || has (blocks_of rs) b) ≡ true → set.contains after b ≡ false
    by b true is e = (takes_absent before want rs after left t b (h.absent b is)).0
    by b false is e = (takes_apart before want rs after left t).absent b (sym (ap (λ (x : Bool). x || has (blocks_of rs) b) is) ∙ e)

pub apart_back : (pool : BlockSet) (xs ys : List ℕ) → IsApart pool (xs ++ ys) → IsApart pool ys
apart_back pool xs ys h = record {
  absent = λ b e. h.absent b (has-append xs ys b ∙ ap (λ (x : Bool). has xs b || x) e ∙ or_right (has xs b));
  once = distinct_back xs ys h.once;
}
  where
    or_right : (a : Bool) → (a || true) ≡ true
    or_right true = refl
    or_right false = refl

pub apart_front : (pool : BlockSet) (xs ys : List ℕ) (rs : List Run) → blocks_of rs ≡ ys → IsApart pool (xs ++ ys) → IsApart (set.union pool (set_of rs)) xs
apart_front pool xs ys rs is h = record {
  absent = λ b e. has-union pool (set_of rs) b ∙ (λ i. h.absent b (has-append xs ys b ∙ ap (λ (x : Bool). x || has ys b) e) i || (ap (λ (l : List ℕ). has l b) is ∙ distinct_apart xs ys h.once b e) i);
  once = distinct_front xs ys h.once;
}

-- ---- extents

pub blocks_of-all : (xs rs : List Run) → blocks_of (appended_all xs rs) ≡ blocks_of xs ++ blocks_of rs
blocks_of-all xs [] = sym (append-nil (blocks_of xs))
blocks_of-all xs (r ∷ rs) =
    blocks_of-all (appended xs r) rs ∙ ap (λ (l : List ℕ). l ++ blocks_of rs) (blocks_of-appended xs r) ∙ append_assoc (blocks_of xs) (blocks_in r) (blocks_of rs)

pub room_for : (xs : List Run) (r : Run) (rest : List Run) → length (appended_all xs (r ∷ rest)) ≤ 56 → length (appended xs r) ≤ 56
room_for xs r rest h = omega (arith, h, length-appended_all (appended xs r) rest)

pub has_taken : (old : List Run) (before after : BlockSet) (count : ℕ) (runs : List Run) → Takes before (count - length (blocks_of old)) runs after 0 → length (blocks_of old) ≤ count
    → HasBlocks old (appended_all old runs) before after count
has_taken old before after count runs t le = record {
  more = λ h. record { runs = runs; in_turn = t; extents = refl };
  fewer = λ h. absurd (omega (arith, h, le));
}

pub has_same : (old : List Run) (pool : BlockSet) (count : ℕ) → length (blocks_of old) ≡ count → HasBlocks old old pool pool count
has_same old pool count e = has_taken old pool pool count [] (refl, omega (arith, e)) (omega (arith, e))

pub has_kept : (old : List Run) (before : BlockSet) (count : ℕ) → count ≤ length (blocks_of old)
    → HasBlocks old (first_runs old count) before (set.union before (set_of (last_runs old count))) count
has_kept old before count le = record {
  more = λ h.
      let all = length-blocks_of old in
      let first : first_runs old count ≡ old = first_runs-all old count (omega (arith, h, all)) in
      let last : last_runs old count ≡ [] = last_runs-all old count (omega (arith, h, all)) in
      record {
        runs = [];
        in_turn = (sym (ap (λ (l : List Run). set.union before (set_of l)) last ∙ union_end before), omega (arith, h, le));
        extents = first;
      };
  fewer = λ h. record { extents = refl; pool = refl };
}

-- ---- content

pub length-grown : (c : Content) (size : ℕ) → length c.bytes ≤ size → length (grown c size).bytes ≡ size
length-grown c size le = omega (arith, le, length-append c.bytes (replicate (size - length c.bytes) 0), length-replicate {A = ℕ} (size - length c.bytes) 0)

pub dirty-grown : (c : Content) (size : ℕ) → length c.dirty ≡ block_count (length c.bytes) → length c.bytes ≤ size → length (grown c size).dirty ≡ block_count size
dirty-grown c size counted longer =
    let front : length (take (length c.bytes / 4096) c.dirty) ≡ length c.bytes / 4096 = length-take-le (length c.bytes / 4096) c.dirty (omega (arith, counted)) in
    let more : List Bool = replicate (block_count size - length c.bytes / 4096) true in
    omega (arith, longer, front, length-append (take (length c.bytes / 4096) c.dirty) more, length-replicate {A = Bool} (block_count size - length c.bytes / 4096) true)

pub length-marks_cut : (dirty : List Bool) (size : ℕ) → block_count size ≤ length dirty → length (marks_cut dirty size) ≡ block_count size
length-marks_cut dirty size le = by (eqb (size % 4096) 0) refl
  where
    front : length (take (size / 4096) dirty) ≡ size / 4096
    front = length-take-le (size / 4096) dirty (omega (arith, le))

    by : (b : Bool) → eqb (size % 4096) 0 ≡ b → length (cond b (take (size / 4096) dirty) (take (size / 4096) dirty ++ true ∷ [])) ≡ block_count size
    by true e = (let even : size % 4096 ≡ 0 = eqb-true (size % 4096) 0 e in omega (arith, front, even))
    by false e = (let odd : size % 4096 ≡ 0 → ⊥ = eqb-false (size % 4096) 0 e in omega (arith, front, odd, length-append (take (size / 4096) dirty) (true ∷ [])))

pub lengthened_more : (c : Content) (size : ℕ) → length c.bytes < size → lengthened c size ≡ grown c size
lengthened_more c size h = cond-true (ltb (length c.bytes) size) (grown c size) c (lt-ltb (length c.bytes) size h)

pub lengthened_same : (c : Content) (size : ℕ) → size ≤ length c.bytes → lengthened c size ≡ c
lengthened_same c size h = cond-false (ltb (length c.bytes) size) (grown c size) c (le-ltb (length c.bytes) size h)

-- each run adds an extent at most
pub most_extents : (xs rs : List Run) → length (appended_all xs rs) ≤ length xs + length rs
most_extents xs [] = omega arith
most_extents xs (r ∷ rs) = omega (arith, most_extents (appended xs r) rs, most_appended xs r)
  where
    most_appended : (xs : List Run) (r : Run) → length (appended xs r) ≤ length xs + 1
    most_appended [] r = omega arith
    most_appended (l ∷ []) r = by (eqb (end_of l) r.start)
      where
        by : (b : Bool) → length (cond b ((record { start = l.start; length = l.length + r.length }) ∷ []) (l ∷ r ∷ [])) ≤ length (l ∷ []) + 1
        by true = omega arith
        by false = omega arith
    most_appended (l ∷ m ∷ rs) r = omega (arith, most_appended (m ∷ rs) r)

pub length-lengthened : (c : Content) (size : ℕ) → length (lengthened c size).bytes ≡ max (length c.bytes) size
length-lengthened c size = by (ltb (length c.bytes) size) refl
  where
    by : (b : Bool) → ltb (length c.bytes) size ≡ b → length (cond {A = Content} b (grown c size) c).bytes ≡ max (length c.bytes) size
    by true e = (let less = ltb-true (length c.bytes) size e in omega (arith, less, length-grown c size (omega (arith, less))))
    by false e = (let le = ltb-false (length c.bytes) size e in omega (arith, le))

pub put_some : (c : Content) (at : ℕ) (fresh : List ℕ) → 0 < length fresh → content_put c at fresh ≡ written_over (lengthened c (at + length fresh)) at fresh
put_some c at fresh some =
    cond-false (eqb (length fresh) 0) c (written_over (lengthened c (at + length fresh)) at fresh) (ne_eqb (length fresh) 0 (λ e. omega (arith, e, some)))

pub put_size : (c : Content) (at : ℕ) (fresh : List ℕ) → 0 < length fresh → length (content_put c at fresh).bytes ≡ length (lengthened c (at + length fresh)).bytes
put_size c at fresh some =
    let long = lengthened c (at + length fresh) in
    ap (λ (v : Content). length v.bytes) (put_some c at fresh some) ∙ length-over long.bytes at fresh (omega (arith, length-lengthened c (at + length fresh)))

pub long_bytes : (c : Content) (size : ℕ) → (lengthened c size).bytes ≡ c.bytes ++ replicate (size - length c.bytes) 0
long_bytes c size = by (ltb (length c.bytes) size) refl
  where
    by : (b : Bool) → ltb (length c.bytes) size ≡ b → (cond {A = Content} b (grown c size) c).bytes ≡ c.bytes ++ replicate (size - length c.bytes) 0
    by true e = refl
    by false e =
        (let le = ltb-false (length c.bytes) size e in
        let none : 0 ≡ size - length c.bytes = omega (arith, le) in
        sym (append-nil c.bytes) ∙ ap (λ k. c.bytes ++ replicate k 0) none)

-- which blocks are in memory doesn't tell in the bytes
pub covered_bytes : (c : Content) (from to size : ℕ) → (lengthened (covered c from to) size).bytes ≡ (lengthened c size).bytes
covered_bytes c from to size = long_bytes (covered c from to) size ∙ sym (long_bytes c size)

pub put_changed : (old mid new : FileState) (before after : BlockSet) (at from to : ℕ) (fresh : List ℕ) → 0 < length fresh → IsChanged old mid before after (lengthened (covered old.content from to) (at + length fresh))
    → written_over (lengthened (covered old.content from to) (at + length fresh)) at fresh ≡ written_over (lengthened old.content (at + length fresh)) at fresh
    → new ≡ record mid { content = written_over mid.content at fresh } → IsChanged old new before after (content_put old.content at fresh)
put_changed old mid new before after at from to fresh some h same is =
    let size : length (content_put old.content at fresh).bytes ≡ length (lengthened (covered old.content from to) (at + length fresh)).bytes =
    put_size old.content at fresh some ∙ ap length (sym (covered_bytes old.content from to (at + length fresh))) in
    record {
      same_file = ap (λ (f : FileState). f.file) is ∙ h.same_file;
      same_inode = ap (λ (f : FileState). f.inode) is ∙ h.same_inode;
      content_is = ap (λ (f : FileState). f.content) is ∙ ap (λ (v : Content). written_over v at fresh) h.content_is ∙ same ∙ sym (put_some old.content at fresh some);
      blocks = subst (λ (e : List Run). HasBlocks old.extents e before after (block_count (length (content_put old.content at fresh).bytes))) (sym (ap (λ (f : FileState). f.extents) is))
          (subst (λ (n : ℕ). HasBlocks old.extents mid.extents before after (block_count n)) (sym size) h.blocks);
    }

pub cut_changed : (old new : FileState) (before after : BlockSet) (size n : ℕ) (rest : List Run) → n ≡ block_count size → n ≤ length (blocks_of old.extents) → size ≤ length old.content.bytes
    → new.file ≡ old.file → new.inode ≡ old.inode → new.extents ≡ first_runs old.extents n → rest ≡ last_runs old.extents n → after ≡ set.union before (set_of rest)
    → new.content ≡ shortened old.content size → IsChanged old new before after (shortened old.content size)
cut_changed old new before after size n rest is le inside f i e r p v =
    let count : n ≡ block_count (length (shortened old.content size).bytes) = is ∙ ap block_count (sym (length-take-le size old.content.bytes inside)) in
    let pool : after ≡ set.union before (set_of (last_runs old.extents n)) = p ∙ ap (λ (l : List Run). set.union before (set_of l)) r in
    record {
      same_file = f;
      same_inode = i;
      content_is = v;
      blocks = subst (λ (k : ℕ). HasBlocks old.extents new.extents before after k) count
          (subst (λ (s : BlockSet). HasBlocks old.extents new.extents before s n) (sym pool)
          (subst (λ (l : List Run). HasBlocks old.extents l before (set.union before (set_of (last_runs old.extents n))) n) (sym e) (has_kept old.extents before n le)));
    }

-- ---- the bytes that a request leaves

pub put_bytes : (c : Content) (at : ℕ) (fresh : List ℕ) → over (lengthened c (at + length fresh)).bytes at fresh ≡ put_at c.bytes at fresh
put_bytes c at fresh =
    let items : List ℕ = (lengthened c (at + length fresh)).bytes in
    let new : List ℕ = over items at fresh in
    let size : length new ≡ length items = length-over items at fresh (omega (arith, length-lengthened c (at + length fresh))) in
    sym (take_at new (drop (length new) items) (length items) size) ∙ put_over_is c.bytes items new fresh at (length items) (long_bytes c (at + length fresh)) refl refl

pub content_bytes : (c : Content) (d : Desc) (request : Op) → (content_after c d request).bytes ≡ bytes_after c.bytes d request
content_bytes c d (op.Write fd fresh) = by (eqb (length fresh) 0)
  where
    by : (b : Bool) → (cond {A = Content} b c (written_over (lengthened c (place_of d c.bytes + length fresh)) (place_of d c.bytes) fresh)).bytes ≡ cond {A = List ℕ} b c.bytes (put_at c.bytes (place_of d c.bytes) fresh)
    by true = refl
    by false = put_bytes c (place_of d c.bytes) fresh
content_bytes c d (op.Pwrite fd fresh at) = by (eqb (length fresh) 0)
  where
    by : (b : Bool) → (cond {A = Content} b c (written_over (lengthened c (at + length fresh)) at fresh)).bytes ≡ cond {A = List ℕ} b c.bytes (put_at c.bytes at fresh)
    by true = refl
    by false = put_bytes c at fresh
content_bytes c d (op.Trunc fd size) = by (ltb size (length c.bytes)) refl
  where
    by : (b : Bool) → ltb size (length c.bytes) ≡ b → (cond {A = Content} b (shortened c size) (lengthened c size)).bytes ≡ resized c.bytes size
    by true e = (let less = ltb-true size (length c.bytes) e in sym (take-append-le size c.bytes (replicate (size - length c.bytes) 0) (omega (arith, less))))
    by false e =
        (let le = ltb-false size (length c.bytes) e in
        let zs : List ℕ = replicate (size - length c.bytes) 0 in
        long_bytes c size ∙ sym (take_all size (c.bytes ++ zs) (omega (arith, le, length-append c.bytes zs, length-replicate {A = ℕ} (size - length c.bytes) 0))))
content_bytes c d (op.OpenFile path read write creat excl trunc append) = refl
content_bytes c d (op.Close fd) = refl
content_bytes c d (op.Read fd n) = refl
content_bytes c d (op.Pread fd n at) = refl
content_bytes c d (op.Seek fd from by) = refl
content_bytes c d (op.Fsync fd) = refl
content_bytes c d op.Sync = refl
content_bytes c d (op.Mkdir path) = refl
content_bytes c d (op.Rmdir path) = refl
content_bytes c d (op.Unlink path) = refl
content_bytes c d (op.Rename from to) = refl
content_bytes c d (op.Stat path) = refl
content_bytes c d (op.List path) = refl

pub served_is : (old new : FileState) (before after : BlockSet) (d : Desc) (request : Op) (r : Reply) (told : Desc) → file_refusal old.content.bytes d request ≡ None
    → IsChanged old new before after (content_after old.content d request) → r ≡ file_answer old.content.bytes d request → told ≡ desc_after old.content.bytes d request
    → IsServedByFile old new before after d request r (Some told)
served_is old new before after d request r told allowed h answered after_is =
    let bytes : List ℕ = old.content.bytes in
    let step : file_step bytes d request ≡ step_by bytes d request None = ap (step_by bytes d request) allowed in
    record {
      replied = answered ∙ ap (λ (s : Step). s.reply) (sym step);
      told = ap (λ (e : Desc). Some e) (after_is ∙ ap (λ (s : Step). s.desc) (sym step));
      bytes = ap (λ (v : Content). v.bytes) h.content_is ∙ content_bytes old.content d request ∙ ap (λ (s : Step). s.bytes) (sym step);
      memory = h.content_is ∙ ap (content_by old.content d request) (sym allowed);
      same_file = h.same_file;
      same_inode = h.same_inode;
      blocks = subst (λ (v : Content). HasBlocks old.extents new.extents before after (block_count (length v.bytes))) (sym h.content_is) h.blocks;
    }

pub step_unexcused : (bytes : List ℕ) (d : Desc) (request : Op) (o : Option Errno) → is_excused (step_by bytes d request o).reply ≡ false
step_unexcused bytes d request (Some e) = refl
step_unexcused bytes d (op.OpenFile path read write creat excl trunc append) None = refl
step_unexcused bytes d (op.Close fd) None = refl
step_unexcused bytes d (op.Read fd n) None = refl
step_unexcused bytes d (op.Write fd fresh) None = refl
step_unexcused bytes d (op.Pread fd n at) None = refl
step_unexcused bytes d (op.Pwrite fd fresh at) None = refl
step_unexcused bytes d (op.Seek fd from by) None = refl
step_unexcused bytes d (op.Trunc fd size) None = refl
step_unexcused bytes d (op.Fsync fd) None = refl
step_unexcused bytes d op.Sync None = refl
step_unexcused bytes d (op.Mkdir path) None = refl
step_unexcused bytes d (op.Rmdir path) None = refl
step_unexcused bytes d (op.Unlink path) None = refl
step_unexcused bytes d (op.Rename from to) None = refl
step_unexcused bytes d (op.Stat path) None = refl
step_unexcused bytes d (op.List path) None = refl

-- ---- all blocks

-- pool and file have the same blocks together
pub has_together : (old new : List Run) (before after : BlockSet) (count : ℕ) → HasBlocks old new before after count → set.union after (set_of new) ≡ set.union before (set_of old)
has_together old new before after count h = by (ltb count (length (blocks_of old))) refl
  where
    turn : (a b d : Bool) → (a || (b || d)) ≡ ((a || d) || b)
    turn true b d = refl
    turn false true true = refl
    turn false true false = refl
    turn false false true = refl
    turn false false false = refl

    more : length (blocks_of old) ≤ count → set.union after (set_of new) ≡ set.union before (set_of old)
    more le =
        (let t = h.more le in
        same_blocks _ _ (λ q.
        has-union after (set_of new) q
        ∙ ap (λ (l : List Run). set.contains after q || has (blocks_of l) q) t.extents
        ∙ ap (λ (l : List ℕ). set.contains after q || has l q) (blocks_of-all old t.runs)
        ∙ ap (λ (b : Bool). set.contains after q || b) (has-append (blocks_of old) (blocks_of t.runs) q)
        ∙ turn (set.contains after q) (has (blocks_of old) q) (has (blocks_of t.runs) q)
        ∙ ap (λ (b : Bool). b || has (blocks_of old) q) (sym (takes_all before (count - length (blocks_of old)) t.runs after 0 t.in_turn q))
        ∙ sym (has-union before (set_of old) q)))

    fewer : count < length (blocks_of old) → set.union after (set_of new) ≡ set.union before (set_of old)
    fewer less =
        (let t = h.fewer less in
        let bs : List ℕ = blocks_of old in
        same_blocks _ _ (λ q.
        has-union after (set_of new) q
        ∙ (λ i. (ap (λ (s : BlockSet). set.contains s q) t.pool ∙ has-union before (set_of (last_runs old count)) q ∙ ap (λ (l : List ℕ). set.contains before q || has l q) (blocks_of-last_runs old count)) i
        || (ap (λ (l : List Run). has (blocks_of l) q) t.extents ∙ ap (λ (l : List ℕ). has l q) (blocks_of-first_runs old count)) i)
        ∙ sym (turn (set.contains before q) (has (take count bs) q) (has (drop count bs) q))
        ∙ ap (λ (b : Bool). set.contains before q || b) (sym (has-append (take count bs) (drop count bs) q) ∙ ap (λ (l : List ℕ). has l q) (take-append-drop count bs))
        ∙ sym (has-union before (set_of old) q)))

    by : (b : Bool) → ltb count (length (blocks_of old)) ≡ b → set.union after (set_of new) ≡ set.union before (set_of old)
    by true e = fewer (ltb-true count (length (blocks_of old)) e)
    by false e = more (ltb-false count (length (blocks_of old)) e)

-- ---- the whole tree

pub posix_is : StepsArePosix → (t : PosixTree) (ask : Ask) (old new : FileState) (before after : BlockSet) (d : Desc) (reply : Reply) (desc : Option Desc) → is_on_file ask.op ≡ true → ask.desc ≡ Some d
    → IsOf (Some d) old.file → (bytes : List ℕ) → IsServedByFile (whole_as bytes old) (whole_as (file_step bytes d ask.op).bytes new) before after d ask.op reply desc → IsContentOf new.content (file_step bytes d ask.op).bytes
    → IsFileIn t old.file bytes → IsAsk t ask → IsPosix t ask new reply desc
posix_is steps t ask old new before after d reply desc kind is named bytes h goes held a =
    let s = steps t ask.client ask.op d old.file bytes kind (sym a.desc ∙ is) named held in
    record {
      replied = h.replied ∙ sym s.reply;
      goes_on = record { bytes = (file_step bytes d ask.op).bytes; has = ap (λ (f : ℕ). map.get (posix t ask.client ask.op).0.bytes f) h.same_file ∙ s.tree.bytes; may = goes };
      step = λ e bs its here. (steps t ask.client ask.op e new.file bs kind (sym a.desc ∙ its)
          (subst (λ (o : Option Desc). IsOf o new.file) its (subst (λ (o : Option Desc). IsOf o new.file) (sym is) (named ∙ ap (λ (f : ℕ). Some f) (sym h.same_file)))) here).tree.bytes;
      others = λ f not. s.tree.others f (λ e. not (e ∙ sym h.same_file));
      told = subst (λ (e : Option Desc). IsDescAfter t.fds (posix t ask.client ask.op).0.fds ask.client (fd_named ask.op) e) (sym h.told) s.tree.desc;
      paths = s.tree.paths;
      next = s.tree.next;
    }
