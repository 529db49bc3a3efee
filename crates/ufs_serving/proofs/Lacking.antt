-- A request that was excused for want of blocks found too few.
use Rattle.std.proofs.Common.{◌≡◌, ◌≢◌, ◌<◌, ◌^◌, ℕ, Bool, true, false, length, Option, None, Some, refl, ap, sym, subst, arith}
use Rattle.std.specs.Prelude.{IsSome}
use Rattle.std.specs.FinSet as set
use Rattle.ufs_bitmap.specs.Blocks.{BlockSet}
use Rattle.ufs_file.specs.Content.{Content, IsContentOf}
use Rattle.ufs_file.specs.Hand.{FileState, IsOf, missing, whole_as}
use Rattle.ufs_held.specs.Serving.{Applied, IsReadFor, IsServeCause, Unread}
use Rattle.ufs_model.specs.FileCalls.{file_refusal}
use Rattle.ufs_model.specs.declared.data.Desc.{Desc}
use Rattle.ufs_model.specs.declared.data.Excuse.TheVariants as excuse
use Rattle.ufs_model.specs.declared.data.Op.{Op}
use Rattle.ufs_joint.specs.FirstHand.{pool_of}

pub own_content : (c : Content) → IsContentOf c c.bytes
own_content c = record { long = refl; same = λ _ _. refl }

-- The request would lengthen each file of this size and these runs by so many blocks, where it isn't refused.
abbrev pub Measures : FileState → Desc → Op → ℕ → Type 0
Measures f d o wanted = (g : FileState) → length g.content.bytes ≡ length f.content.bytes → g.extents ≡ f.extents → file_refusal g.content.bytes d o ≡ None → missing g d o ≡ wanted

pub too_few : (f read : FileState) (found : BlockSet) (d : Desc) (o : Op) (need had wanted : ℕ) → IsServeCause f read found d o (excuse.Blocks need had) → IsReadFor f read d o
    → Measures f d o wanted → set.len found < wanted
too_few f read found d o need had wanted (Applied why) was measured =
    let e = why read.content.bytes (own_content read.content) in
    let m = measured (whole_as read.content.bytes read) was.still (ap (λ (q : FileState). q.extents) was.rest) e.allowed in
    let n = e.cause.needed in
    let k = e.cause.counted in
    let l = e.cause.fewer in
    omega (arith, m, n, k, l)
too_few f read found d o need had wanted (Unread allowed lacks kind) was measured = absurd cc

-- A request is told its descriptor, whether it is excused or not.
pub some_desc : (o : Option Desc) (d : Desc) (b : Bool) → (b ≡ true → o ≡ Some d) → (b ≡ false → (e : Desc) × (o ≡ Some e)) → IsSome o
some_desc (Some e) d b excused served = refl
some_desc None d true excused served = absurd (let e = excused refl in cc)
some_desc None d false excused served = absurd (let e = (served refl).1 in cc)

-- An `fsync` is told the descriptor that it has.
pub some_of : (d o : Option Desc) (file : ℕ) → d ≡ o → IsOf o file → IsSome d
some_of d None file is named = absurd named
some_of d (Some x) file is named = subst IsSome (sym is) refl

-- no file that went out has a pool's number
pub off_pool : (me file : ℕ) → me < 256 → file < 2 ^ 31 → pool_of me ≢ file
off_pool me file few low is = absurd (omega (arith, few, low, is))
