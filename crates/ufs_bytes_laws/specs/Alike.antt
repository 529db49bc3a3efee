-- Trees whose files have other bytes, but as many; and replies that give others, but as many.
use Rattle.std.specs.Prelude.{ℕ, ◌≡◌, length, replicate, Option}
use Rattle.std.specs.Option.{option_map}
use Rattle.std.specs.FinMap as map
use Rattle.ufs_model.specs.PosixTree.{PosixTree, Files}
use Rattle.ufs_model.specs.declared.data.Reply.{Reply}
use Rattle.ufs_model.specs.declared.data.Reply.TheVariants as reply

-- the size of a file, if there is that file
abbrev pub size_in : Files → ℕ → Option ℕ
size_in bytes file = option_map length (map.get bytes file)

-- the same files, and each of the same size
abbrev pub HaveSameSizes : Files → Files → Type 0
HaveSameSizes a b = (file : ℕ) → size_in a file ≡ size_in b file

-- The trees have the same paths, descriptors, next number and sizes.
pub record AreAlike (t u : PosixTree) : Type 0 where
  pub paths : t.paths ≡ u.paths
  pub sizes : HaveSameSizes t.bytes u.bytes
  pub fds : t.fds ≡ u.fds
  pub next : t.next ≡ u.next

-- the reply with zeros for the bytes that it gives
abbrev pub blank : Reply → Reply
blank (reply.Got bytes) = reply.Got (replicate (length bytes) 0)
blank r = r

-- the same reply, or as many bytes
abbrev pub AreRepliesAlike : Reply → Reply → Type 0
AreRepliesAlike a b = blank a ≡ blank b
