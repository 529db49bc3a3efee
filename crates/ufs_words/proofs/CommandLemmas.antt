-- The command of words that `clap` takes, and of words that it refuses.
use Rattle.std.proofs.Common.{◌≡◌, ◌≢◌, List, [], ◌∷◌, Option, None, length, refl, ap, ap₂, ◌∙◌, arith, inl, inr}
use Rattle.std.specs.Prelude.{option_map}
use Rattle.std.specs.Borrow.{Bor}
use Rattle.clap.specs.Words.{App, Row, Text, HasKind, first_of, first_value, kind_of, rows_of, with_subcommand}
use Rattle.clap.specs.declared.parser.matches.Found.{Found}
use Rattle.clap.proofs.WalkLemmas.{first_value-rows}
use Rattle.clap.specs.Kinds.{Kinds}
use Rattle.clap.specs.declared.error.Error.{Error}
use Rattle.clap.specs.declared.error.kind.ErrorKind.TheVariants.{OutOfMemory}
use Rattle.ufs_words.specs.declared.command.Command.{Command}
use Rattle.ufs_words.specs.Commands.{command_at, command_with}

pub taken : (faults : Kinds) (found : Option (Text × List Row)) → faults ≡ [] → command_at found ≡ command_with faults found
taken [] found e = refl
taken (k ∷ ks) found e = absurd (omega (arith, ap length e))

pub refused : (faults : Kinds) (found : Option (Text × List Row)) (e : Error) → HasKind faults e → kind_of e ≢ OutOfMemory → command_with faults found ≡ None
refused [] found e (inl memory) other = absurd (other memory)
refused [] found e (inr none) other = absurd none
refused (k ∷ ks) found e h other = refl

-- the text of an argument, by its rows
pub text_in : (f : Found) (name : Text) (r : Option (Bor Text)) → option_map (λ s. s.now) r ≡ first_value f name → option_map (λ s. s.now) r ≡ first_of name (rows_of f)
text_in f name r is = is ∙ first_value-rows f name

-- one subcommand more, by what each of the two is
pub beside : (a b s t : App) → a ≡ b → s ≡ t → with_subcommand a s.top ≡ with_subcommand b t.top
beside a b s t one two = ap₂ (λ (x y : App). with_subcommand x y.top) one two
