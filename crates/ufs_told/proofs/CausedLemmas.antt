-- The excuse that a request is told for a fault has its cause.
use Rattle.std.proofs.Common.{◌≡◌, ◌∙◌, ℕ, inl, inr, true, false, Option, Some, None, ap, refl, subst, sym}
use Rattle.ufs_model.specs.declared.data.Excuse.{Excuse}
use Rattle.ufs_model.specs.declared.data.Excuse.TheVariants as excuse
use Rattle.ufs_model.specs.declared.data.Op.{Op}
use Rattle.ufs_model.specs.declared.data.Op.TheVariants as op
use Rattle.ufs_model.specs.declared.data.Reply.{Reply}
use Rattle.ufs_model.specs.declared.data.Reply.TheVariants as reply
use Rattle.ufs_crash_laws.specs.Changes.{asks_commit}
use Rattle.ufs_told.specs.Replies.{TellsFaults, device_in, is_refused, may_turn, stopped_in, stopped_of, is_of_read, needs_bytes}
use Rattle.ufs_told.specs.Told.{IsCaused}
use Rattle.ufs_store.specs.Refusals.{stop_after}
use Rattle.ufs_store.specs.State.{StoreState}

-- ---- kinds of requests

-- one that asks for a commit may have a turn
pub commits_turn : (request : Op) → asks_commit request ≡ true → may_turn request ≡ true
commits_turn (op.Fsync fd) e = refl
commits_turn op.Sync e = refl
commits_turn (op.OpenFile path read write creat excl trunc append) e = absurd cc
commits_turn (op.Close fd) e = absurd cc
commits_turn (op.Read fd n) e = absurd cc
commits_turn (op.Write fd bytes) e = absurd cc
commits_turn (op.Pread fd n at) e = absurd cc
commits_turn (op.Pwrite fd bytes at) e = absurd cc
commits_turn (op.Seek fd from by) e = absurd cc
commits_turn (op.Trunc fd size) e = absurd cc
commits_turn (op.Mkdir path) e = absurd cc
commits_turn (op.Rmdir path) e = absurd cc
commits_turn (op.Unlink path) e = absurd cc
commits_turn (op.Rename from to) e = absurd cc
commits_turn (op.Stat path) e = absurd cc
commits_turn (op.List path) e = absurd cc

-- one that needs blocks may have one, and asks for no commit
needs_turn : (request : Op) → needs_bytes request ≡ true → (may_turn request ≡ true) × (asks_commit request ≡ false)
needs_turn (op.Read fd n) e = (refl, refl)
needs_turn (op.Pread fd n at) e = (refl, refl)
needs_turn (op.Write fd bytes) e = (refl, refl)
needs_turn (op.Pwrite fd bytes at) e = (refl, refl)
needs_turn (op.Trunc fd size) e = (refl, refl)
needs_turn (op.Seek fd from by) e = absurd cc
needs_turn (op.Fsync fd) e = absurd cc
needs_turn op.Sync e = absurd cc
needs_turn (op.OpenFile path read write creat excl trunc append) e = absurd cc
needs_turn (op.Close fd) e = absurd cc
needs_turn (op.Mkdir path) e = absurd cc
needs_turn (op.Rmdir path) e = absurd cc
needs_turn (op.Unlink path) e = absurd cc
needs_turn (op.Rename from to) e = absurd cc
needs_turn (op.Stat path) e = absurd cc
needs_turn (op.List path) e = absurd cc

pub caused_as : (old new : StoreState) (request other : Op) (r : Reply) → other ≡ request → IsCaused old new request r → IsCaused old new other r
caused_as old new request other r same is = subst (λ (o : Op). IsCaused old new o r) (sym same) is

-- ---- the server's reply

-- a fault that it tells is the one at which the store stopped
own_stop : (old new : StoreState) (r : Reply) (fault : ℕ) → TellsFaults old new r → ((n : ℕ) → old.stop ≡ Some n → device_in r ≡ None) → device_in r ≡ Some fault → new.stop ≡ Some fault
own_stop old new r fault (inr hidden) still is = (let no : None ≡ Some fault = sym hidden.none ∙ is in absurd cc)
own_stop old new r fault (inl own) still is = by old.stop refl
  where
    by : (o : Option ℕ) → old.stop ≡ o → new.stop ≡ Some fault
    by None going = own.stop ∙ (λ i. stop_after (going i) (is i))
    by (Some n) stopped = (let no : None ≡ Some fault = sym (still n stopped) ∙ is in absurd cc)

pub served_caused : (old read new : StoreState) (request : Op) (r : Reply) → read.stop ≡ old.stop → TellsFaults read new r → ((fault : ℕ) → read.stop ≡ Some fault → device_in r ≡ None)
    → ((fault : ℕ) → stopped_in r ≡ Some fault → asks_commit request ≡ true)
    → (asks_commit request ≡ true → (fault : ℕ) → read.stop ≡ Some fault → is_refused r ≡ false → stopped_in r ≡ Some fault)
    → ((fault : ℕ) → device_in r ≡ Some fault → asks_commit request ≡ true) → IsCaused old new request r
served_caused old read new request r stop told still asked halted turns = record {
  asked = asked;
  halted = λ kind fault stopped. halted kind fault (stop ∙ stopped);
  turns = λ fault is. commits_turn request (turns fault is);
  stops = λ fault kind is. own_stop read new r fault told still is;
  reads = λ fault other is. (let no : true ≡ false = sym (turns fault is) ∙ other in absurd cc);
}

-- ---- a read failed, or memory was wanting

-- it tells no stop
read_no_stop : (x : Excuse) → is_of_read x ≡ true → stopped_of x ≡ None
read_no_stop excuse.Memory e = refl
read_no_stop (excuse.Device fault) e = refl
read_no_stop (excuse.Stopped fault) e = absurd cc
read_no_stop (excuse.Blocks need had) e = absurd cc
read_no_stop excuse.Inodes e = absurd cc
read_no_stop (excuse.Extents need) e = absurd cc

pub read_caused : (old new : StoreState) (request : Op) (r : Reply) (x : Excuse) → new.stop ≡ old.stop → is_of_read x ≡ true → needs_bytes request ≡ true → r ≡ reply.Excused x → IsCaused old new request r
read_caused old new request r x stop kind needs is = record {
  asked = λ fault told. (let no : None ≡ Some fault = sym (read_no_stop x kind) ∙ sym (ap stopped_in is) ∙ told in absurd cc);
  halted = λ asks. (let no : true ≡ false = sym asks ∙ (needs_turn request needs).1 in absurd cc);
  turns = λ fault told. (needs_turn request needs).0;
  stops = λ fault asks. (let no : true ≡ false = sym asks ∙ (needs_turn request needs).1 in absurd cc);
  reads = λ fault other told. stop;
}

-- memory was wanting to tell which file a request touches that asks for no commit
pub memory_caused : (s : StoreState) (request : Op) (r : Reply) → (asks_commit request ≡ true → ⊥) → r ≡ reply.Excused excuse.Memory → IsCaused s s request r
memory_caused s request r other is = record {
  asked = λ fault told. (let no : None ≡ Some fault = sym (ap stopped_in is) ∙ told in absurd cc);
  halted = λ asks. absurd (other asks);
  turns = λ fault told. (let no : None ≡ Some fault = sym (ap device_in is) ∙ told in absurd cc);
  stops = λ fault asks. absurd (other asks);
  reads = λ fault plain told. refl;
}

-- ---- a client's own answer

pub own_caused : (s : StoreState) (request : Op) (r : Reply) → device_in r ≡ None → stopped_in r ≡ None → (asks_commit request ≡ true → is_refused r ≡ true) → IsCaused s s request r
own_caused s request r device stopped refused = record {
  asked = λ fault told. (let no : None ≡ Some fault = sym stopped ∙ told in absurd cc);
  halted = λ asks fault stop plain. (let no : true ≡ false = sym (refused asks) ∙ plain in absurd cc);
  turns = λ fault told. (let no : None ≡ Some fault = sym device ∙ told in absurd cc);
  stops = λ fault asks told. (let no : None ≡ Some fault = sym device ∙ told in absurd cc);
  reads = λ fault plain told. refl;
}
