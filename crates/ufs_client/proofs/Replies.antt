-- Replies, and the descriptors that they tell.
use Rattle.std.proofs.Common.{◌≡◌, ℕ, true, false, Option, Some, None, refl}
use Rattle.ufs_file.specs.Hand.{IsOf}
use Rattle.ufs_client.specs.Played.{tells_fault}
use Rattle.ufs_model.specs.Asks.{fd_named, fd_told}
use Rattle.ufs_model.specs.History.{is_excused, tree_with}
use Rattle.ufs_model.specs.Posix.{posix}
use Rattle.ufs_model.specs.PosixTree.{PosixTree}
use Rattle.ufs_model.specs.declared.data.Desc.{Desc}
use Rattle.ufs_model.specs.declared.data.Excuse.{Excuse}
use Rattle.ufs_model.specs.declared.data.Op.{Op}
use Rattle.ufs_model.specs.declared.data.Op.TheVariants as op
use Rattle.ufs_model.specs.declared.data.Reply.{Reply}
use Rattle.ufs_model.specs.declared.data.Reply.TheVariants as reply

-- the tree goes on by a reply that is no excuse
pub by_reply : (t : PosixTree) (client : ℕ) (request : Op) (r : Reply) → is_excused r ≡ false → tree_with t client request r ≡ (posix t client request).0
by_reply t client request (reply.Excused x) e = cc
by_reply t client request _ e = refl

-- an excused request is told with its own descriptor
pub excused_named : (request : Op) (x : Excuse) → fd_told request (reply.Excused x) ≡ fd_named request
excused_named (op.OpenFile path read write creat excl trunc append) x = refl
excused_named _ x = refl

pub the_excuse : (r : Reply) → is_excused r ≡ true → (x : Excuse) × (r ≡ reply.Excused x)
the_excuse (reply.Excused x) e = (x, refl)
the_excuse _ e = cc

-- the file that a descriptor stands for
pub desc_there : (o : Option Desc) (file : ℕ) → IsOf o file → (d : Desc) × (o ≡ Some d) × (d.file ≡ Some file)
desc_there None file is = absurd is
desc_there (Some d) file is = (d, refl, is)

-- a reply that is no excuse tells no fault
pub plain_calm : (r : Reply) → is_excused r ≡ false → tells_fault r ≡ false
plain_calm (reply.Excused x) e = cc
plain_calm _ e = refl
