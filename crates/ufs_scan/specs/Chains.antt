-- What transactions do to inodes, one chain for each transaction and inode.
use Rattle.std.specs.Prelude.{◌≡◌, ℕ, ◌+◌, ◌*◌, ◌<◌, List, [], length, map, filter, false, ◌==◌, slice_index_or}
use Rattle.std.specs.List.{All, list_any}
use Rattle.ufs_scan.specs.Edits.{Edit, key_of, StepValue, AreNets}
use Rattle.ufs_scan.specs.declared.chains.Chain.{Chain}

abbrev pub chain_key : Chain → ℕ
chain_key c = c.txn * 4294967296 + c.inode

abbrev pub edits_in_chain : Chain → List Edit
edits_in_chain c = map (λ (s : StepValue). s.edit) c.steps.items

abbrev pub edits_at : ℕ → List Edit → List Edit
edits_at key edits = filter (λ (e : Edit). key_of e == key) edits

-- They are those of these edits, by rising transaction and inode.
pub record AreChains (edits : List Edit) (chains : List Chain) : Type 0 where
  pub parts : All (λ (c : Chain). edits_in_chain c ≡ edits_at (chain_key c) edits) chains
  pub nets : All (λ (c : Chain). AreNets c.steps.items) chains
  pub rising : (i j : ℕ) (d : Chain) → i < j → j < length chains → chain_key (slice_index_or chains i d) < chain_key (slice_index_or chains j d)
  pub every : (key : ℕ) → list_any (λ (c : Chain). chain_key c == key) chains ≡ false → edits_at key edits ≡ []
