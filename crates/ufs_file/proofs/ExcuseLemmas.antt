-- The excuses of a file fit the tree.
use Rattle.std.proofs.Common.{◌≡◌, ℕ, ◌+◌, ◌-◌, ◌≤◌, eqb, ltb, Bool, true, false, cond, Some, List, length, max, refl, sym, ◌∙◌, arith}
use Rattle.std.specs.FinMap as map
use Rattle.std.proofs.lemmas.Bool.{ltb-true, ltb-false}
use Rattle.std.proofs.lemmas.List.{length-take-le}
use Rattle.ufs_model.specs.PosixTree.{PosixTree}
use Rattle.ufs_model.specs.Descriptors.{opened}
use Rattle.ufs_model.specs.FileBytes.{place_of, size_after}
use Rattle.ufs_model.specs.Posix.{file_bytes}
use Rattle.ufs_model.specs.Excuses.{needed, IsExcuseOf, ExcuseFits}
use Rattle.ufs_model.specs.Asks.{IsAsk, desc_of_fd, fd_named}
use Rattle.ufs_model.specs.declared.data.Ask.{Ask}
use Rattle.ufs_model.specs.declared.data.Desc.{Desc}
use Rattle.ufs_model.specs.declared.data.Op.{Op}
use Rattle.ufs_model.specs.declared.data.Op.TheVariants as op
use Rattle.ufs_model.specs.declared.data.Excuse.{Excuse}
use Rattle.ufs_model.specs.declared.data.Excuse.TheVariants as excuse
use Rattle.ufs_extent.specs.Runs.{blocks_of}
use Rattle.ufs_bitmap.specs.Blocks.{BlockSet}
use Rattle.ufs_file.specs.Content.{Content, block_count, shortened, written_over}
use Rattle.ufs_bitmap.proofs.TakingLemmas.{takes_count}
use Rattle.ufs_model.specs.FileCalls.{IsFileIn, is_on_file, RefusalsArePosix}
use Rattle.ufs_file.specs.Hand.{FileState, IsOf, IsCause, IsExcusedFor, missing, lengthened, content_put, content_sized}
use Rattle.ufs_file.proofs.OverLemmas.{length-over}
use Rattle.ufs_model.proofs.FileStepLemmas.{open_is, bytes_is}
use Rattle.ufs_file.proofs.HandLemmas.{length-lengthened, most_extents}

-- ---- sizes

pub size_put : (c : Content) (at : ℕ) (fresh : List ℕ) → size_after (length c.bytes) at (length fresh) ≡ length (content_put c at fresh).bytes
size_put c at fresh = by (eqb (length fresh) 0)
  where
    end : ℕ
    end = at + length fresh

    more : (b : Bool) → ltb (length c.bytes) end ≡ b → cond b end (length c.bytes) ≡ max (length c.bytes) end
    more true e = (let less = ltb-true (length c.bytes) end e in omega (arith, less))
    more false e = (let le = ltb-false (length c.bytes) end e in omega (arith, le))

    by : (b : Bool) → cond b (length c.bytes) (cond (ltb (length c.bytes) (at + length fresh)) (at + length fresh) (length c.bytes))
        ≡ length (cond {A = Content} b c (written_over (lengthened c (at + length fresh)) at fresh)).bytes
    by true = refl
    by false =
        (let long = length-lengthened c (at + length fresh) in
        more (ltb (length c.bytes) (at + length fresh)) refl ∙ sym long ∙ sym (length-over (lengthened c (at + length fresh)).bytes at fresh (omega (arith, long))))

pub size_sized : (c : Content) (size : ℕ) → size ≡ length (content_sized c size).bytes
size_sized c size = by (ltb size (length c.bytes)) refl
  where
    by : (b : Bool) → ltb size (length c.bytes) ≡ b → size ≡ length (cond {A = Content} b (shortened c size) (lengthened c size)).bytes
    by true e = (let less = ltb-true size (length c.bytes) e in sym (length-take-le size c.bytes (omega (arith, less))))
    by false e = (let le = ltb-false size (length c.bytes) e in omega (arith, le, length-lengthened c size))

-- ---- what is needed

module _ (t : PosixTree) (client fd : ℕ) (d : Desc) (f : FileState) (there : map.get t.fds (client, fd) ≡ Some d) (named : d.file ≡ Some f.file) (held : IsFileIn t f.file f.content.bytes)
    (whole : length (blocks_of f.extents) ≡ block_count (length f.content.bytes)) where
  desc_now : opened t client fd ≡ d
  desc_now = open_is t client fd f.file d there named f.content.bytes held

  bytes : file_bytes t client fd ≡ f.content.bytes
  bytes = bytes_is t client fd f.file d there named f.content.bytes held

  none : 0 ≡ block_count (length f.content.bytes) - length (blocks_of f.extents)
  none = omega (arith, whole)

  pub needs_write : (fresh : List ℕ) → needed t client (op.Write fd fresh) ≡ missing f d (op.Write fd fresh)
  needs_write fresh =
      (λ i. block_count (size_after (length (bytes i)) (place_of (desc_now i) (bytes i)) (length fresh)) - block_count (length (bytes i)))
      ∙ (λ i. block_count (size_put f.content (place_of d f.content.bytes) fresh i) - sym whole i)

  pub needs_pwrite : (fresh : List ℕ) (at : ℕ) → needed t client (op.Pwrite fd fresh at) ≡ missing f d (op.Pwrite fd fresh at)
  needs_pwrite fresh at =
      (λ i. block_count (size_after (length (bytes i)) at (length fresh)) - block_count (length (bytes i)))
      ∙ (λ i. block_count (size_put f.content at fresh i) - sym whole i)

  pub needs_trunc : (size : ℕ) → needed t client (op.Trunc fd size) ≡ missing f d (op.Trunc fd size)
  needs_trunc size = (λ i. block_count size - block_count (length (bytes i))) ∙ (λ i. block_count (size_sized f.content size i) - sym whole i)

pub needed_is : (t : PosixTree) (client : ℕ) (request : Op) (d : Desc) (f : FileState) → is_on_file request ≡ true → desc_of_fd t.fds client (fd_named request) ≡ Some d → d.file ≡ Some f.file
    → IsFileIn t f.file f.content.bytes → length (blocks_of f.extents) ≡ block_count (length f.content.bytes) → needed t client request ≡ missing f d request
needed_is t client (op.Write fd fresh) d f kind there named held whole = needs_write t client fd d f there named held whole fresh
needed_is t client (op.Pwrite fd fresh at) d f kind there named held whole = needs_pwrite t client fd d f there named held whole fresh at
needed_is t client (op.Trunc fd size) d f kind there named held whole = needs_trunc t client fd d f there named held whole size
needed_is t client (op.Read fd n) d f kind there named held whole = none t client fd d f there named held whole
needed_is t client (op.Pread fd n at) d f kind there named held whole = none t client fd d f there named held whole
needed_is t client (op.Seek fd from by) d f kind there named held whole = none t client fd d f there named held whole
needed_is t client (op.Fsync fd) d f kind there named held whole = none t client fd d f there named held whole
needed_is t client (op.OpenFile path read write creat excl trunc append) d f kind there named held whole = cc
needed_is t client (op.Close fd) d f kind there named held whole = cc
needed_is t client op.Sync d f kind there named held whole = cc
needed_is t client (op.Mkdir path) d f kind there named held whole = cc
needed_is t client (op.Rmdir path) d f kind there named held whole = cc
needed_is t client (op.Unlink path) d f kind there named held whole = cc
needed_is t client (op.Rename from to) d f kind there named held whole = cc
needed_is t client (op.Stat path) d f kind there named held whole = cc
needed_is t client (op.List path) d f kind there named held whole = cc

pub excuse_fits : RefusalsArePosix → (t : PosixTree) (ask : Ask) (f : FileState) (pool : BlockSet) (d : Desc) (x : Excuse) → is_on_file ask.op ≡ true → ask.desc ≡ Some d → IsOf (Some d) f.file
    → length (blocks_of f.extents) ≡ block_count (length f.content.bytes) → length f.extents ≤ 56 → IsExcusedFor f d ask.op pool x → IsFileIn t f.file f.content.bytes → IsAsk t ask → ExcuseFits t ask.client ask.op x
excuse_fits refusals t ask f pool d x kind is named whole few h held a = record {
  due = λ not. refusals t ask.client ask.op d f.file f.content.bytes kind there named held ∙ h.allowed;
  told = told x h.cause;
}
  where
    there : desc_of_fd t.fds ask.client (fd_named ask.op) ≡ Some d
    there = sym a.desc ∙ is

    need_is : needed t ask.client ask.op ≡ missing f d ask.op
    need_is = needed_is t ask.client ask.op d f kind there named held whole

    told : (x : Excuse) → IsCause f.extents (missing f d ask.op) pool x → IsExcuseOf t ask.client ask.op x
    told excuse.Memory c = tt
    told (excuse.Blocks need had) c = (c.needed ∙ sym need_is, c.fewer)
    told (excuse.Extents need) c =
        (c.more, omega (arith, most_extents f.extents c.runs, takes_count pool (missing f d ask.op) c.runs c.left 0 c.in_turn, few, c.counted, need_is))
    told (excuse.Device fault) c = absurd c
    told (excuse.Stopped fault) c = absurd c
    told excuse.Inodes c = absurd c
