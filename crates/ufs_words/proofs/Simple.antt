-- The command is one of those of which `clap` says each answer.
use Rattle.std.proofs.Common.{◌≡◌, true, refl}
use Rattle.clap.specs.Words.{is_simple, is_simple_and_free}
use Rattle.clap.proofs.OnLiterals.{clap_on_literals}
use Rattle.ufs_words.specs.Grammar.{ufs}

pub simple : is_simple ufs ≡ true
unfolding clap_on_literals
simple = refl

pub free : is_simple_and_free ufs ≡ true
unfolding clap_on_literals
free = refl
