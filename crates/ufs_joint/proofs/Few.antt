-- The tickets of a session are few, and no more files are made than there are tickets.
use Rattle.std.proofs.Common.{◌≡◌, ℕ, zero, suc, ◌+◌, ◌*◌, ◌<◌, ◌≤◌, Bool, true, false, List, [], ◌∷◌, length, refl, inl, inr, ap, arith}
use Rattle.ufs_model.specs.History.{entries_of, goes_on, is_excused, tree_after}
use Rattle.ufs_model.specs.Posix.{posix}
use Rattle.ufs_model.specs.PosixTree.{PosixTree}
use Rattle.ufs_model.specs.declared.data.Entry.{Entry}
use Rattle.ufs_model.proofs.RefusalLemmas.{makes_one}
use Rattle.ufs_hand_laws.specs.Owned.{Has}
use Rattle.ufs_hand_laws.proofs.Ruling.{tally, tally_none, tally_step}
use Rattle.ufs_promise_laws.proofs.Entries.{excuse_leaves}
use Rattle.ufs_promise_laws.proofs.FileEntries.{served_goes}
use Rattle.ufs_joint.specs.Cells.{Start, View, Word}
use Rattle.ufs_joint.specs.Sound.{IsSound}

-- ---- tickets

tally_room : (k : ℕ) (h : List Entry) → ((c : ℕ) → length (entries_of c h) ≤ 65536) → tally k h ≤ k * 65536
tally_room zero h r = omega arith
tally_room (suc k) h r = let i = tally_room k h r in let a = r k in omega arith

tally_all : (h : List Entry) → ((e : Entry) → Has e h → e.client < 16) → tally 16 h ≡ length h
tally_all [] l = tally_none 16
tally_all (e ∷ h) l = let i = tally_all h (λ x m. l x (inr m)) in let s = tally_step 16 e h (l e (inl refl)) in omega arith

pub few : (k : Start) (word : Word) (views : List View) → IsSound k word views → word.tickets ≤ 1048576
few k word views o = let a = tally_room 16 o.history o.tickets_once.room in let b = tally_all o.history (λ e h. (o.tickets_once.there e h).0) in let c = o.tickets_once.tickets in omega (arith, a, b, c)

-- ---- the next file's number

one_file : (t : PosixTree) (e : Entry) → (goes_on t e).next ≤ t.next + 1
one_file t e = by (is_excused e.reply) refl
  where
    by : (b : Bool) → is_excused e.reply ≡ b → (goes_on t e).next ≤ t.next + 1
    by true is = let same : (goes_on t e).next ≡ t.next = ap (λ (u : PosixTree). u.next) (excuse_leaves t e.client e.op e.reply is) in omega (arith, same)
    by false is = let same : (goes_on t e).next ≡ (posix t e.client e.op).0.next = ap (λ (u : PosixTree). u.next) (served_goes t e.client e.op e.reply is) in let one = makes_one t e.client e.op in omega (arith, same, one)

pub few_files : (t : PosixTree) (h : List Entry) → (tree_after t h).next ≤ t.next + length h
few_files t [] = omega arith
few_files t (e ∷ h) = let a = few_files (goes_on t e) h in let b = one_file t e in omega (arith, a, b)
