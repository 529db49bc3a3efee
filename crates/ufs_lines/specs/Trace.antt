-- What a line of a trace tells.
use Rattle.std.specs.Prelude.{ℕ, ◌≡◌, ◌≢◌, ◌<◌, ◌^◌, List, [], ◌∷◌, ◌++◌, Option, Some, None, IfSome, Bool, false, codes}
use Rattle.std.specs.List.{AllByRecursion}
use Rattle.std.specs.Fmt.{decimal}
use Rattle.ufs_model.specs.declared.data.Actor.{Actor}
use Rattle.ufs_model.specs.declared.data.Actor.TheVariants as actor
use Rattle.ufs_model.specs.declared.data.Excuse.{Excuse}
use Rattle.ufs_model.specs.declared.data.Excuse.TheVariants as excuse
use Rattle.ufs_model.specs.declared.data.Reply.{Reply}
use Rattle.ufs_model.specs.declared.data.Reply.TheVariants as reply
use Rattle.ufs_model.specs.Excuses.{is_memory}
use Rattle.ufs_script.specs.Output.{actor_text, more_actors, via_text, excuse_words}
use Rattle.ufs_lines.specs.declared.told.Told.{Told}
use Rattle.ufs_lines.specs.declared.trace.Server.{Server}
use Rattle.ufs_lines.specs.declared.told.Why.{Why}
use Rattle.ufs_lines.specs.declared.told.Why.TheVariants as why

-- ---- the numbers that a line may have

abbrev pub IsActor : Actor → Type 0
IsActor (actor.Client k) = k < 2 ^ 8
IsActor (actor.Worker k) = k < 2 ^ 8
IsActor actor.Primary = Unit {0}

abbrev pub IsExcuse : Excuse → Type 0
IsExcuse excuse.Memory = Unit {0}
IsExcuse (excuse.Device fault) = fault < 2 ^ 64
IsExcuse (excuse.Stopped fault) = fault < 2 ^ 64
IsExcuse (excuse.Blocks need had) = (need < 2 ^ 32) × (had < 2 ^ 32)
IsExcuse excuse.Inodes = Unit {0}
IsExcuse (excuse.Extents need) = need < 2 ^ 32

-- the excuse that is told
abbrev pub excuse_told : Why → Option Excuse
excuse_told why.Served = None
excuse_told why.Starved = Some excuse.Memory
excuse_told (why.Excused x) = Some x

-- want of memory is told in one way
abbrev pub IsWhy : Why → Type 0
IsWhy (why.Excused x) = IsExcuse x × (is_memory x ≡ false)
IsWhy _ = Unit {0}

pub record IsTold (told : Told) : Type 0 where
  pub client : told.client < 2 ^ 8
  pub seq : told.seq < 2 ^ 32
  pub by : IsActor told.by
  pub why : IsWhy told.why

-- ---- the line

-- the excuse in full, where there is one
abbrev pub end_text : Option Excuse → List ℕ
end_text None = []
end_text (Some x) = codes " excuse " ++ excuse_words x

-- ticket, client, point, number, who served it, who sent it on, and the excuse
abbrev pub told_text : ℕ → Told → List Actor → List ℕ
told_text ticket told via =
    codes "# " ++ decimal ticket ++ 32 ∷ decimal told.client ++ 46 ∷ decimal told.seq ++ codes " by "
    ++ actor_text told.by ++ via_text via ++ end_text (excuse_told told.why)

-- The line, without its end, tells this at that ticket.
abbrev pub Tells : ℕ → Told → List ℕ → Type 0
Tells ticket told line = (via : List Actor) × AllByRecursion IsActor via × IsTold told × (line ≡ told_text ticket told via)

-- who served it, who sent it on, and the excuse
abbrev pub TellsServer : Server → List ℕ → Type 0
TellsServer served text =
    (via : List Actor) × AllByRecursion IsActor via × IsActor served.by × IsWhy served.why
    × (text ≡ actor_text served.by ++ (via_text via ++ end_text (excuse_told served.why)))

-- ---- words of a line

-- no such byte stands in it
abbrev pub IsFree : ℕ → List ℕ → Type 0
IsFree byte xs = AllByRecursion (λ b. b ≢ byte) xs

-- what stands before the first such byte, and what follows it
abbrev pub IsCut : ℕ → List ℕ → List ℕ → List ℕ → Type 0
IsCut byte text front rest = IsFree byte front × (text ≡ front ++ byte ∷ rest)

-- nothing, or what begins with a space
abbrev pub IsTail : List ℕ → Type 0
IsTail [] = Unit {0}
IsTail (b ∷ more) = b ≡ 32

-- what stands before the first space, and the text from that space on
pub record IsFirstWord (text word tail : List ℕ) : Type 0 where
  pub free : IsFree 32 word
  pub follows : IsTail tail
  pub is : text ≡ word ++ tail

-- one or more actors with commas between them
abbrev pub AreActors : List ℕ → Type 0
AreActors text = (first : Actor) × (more : List Actor) × IsActor first × AllByRecursion IsActor more × (text ≡ actor_text first ++ more_actors more)

-- A line tells one thing at most.
abbrev pub TellOne : Type 0
TellOne = (ticket : ℕ) (a b : Told) (line : List ℕ) → ticket < 2 ^ 64 → Tells ticket a line → Tells ticket b line → a ≡ b
