-- Words that name an image's file are answered as `quiet` answers them.
use Rattle.std.proofs.Common.{◌≡◌, ℕ, List, Option, Some, None, Result, Ok, ap, sym, subst, ◌∙◌, map, string_bytes}
use Rattle.std.specs.Prelude.{is_some, if◌then◌else◌}
use Rattle.std.specs.declared.string.String.{String}
use Rattle.std.specs.declared.vec.Vec.{Vec}
use Rattle.ufs_model.specs.declared.data.Entry.{Entry}
use Rattle.ufs_command.specs.declared.response.WordsFault.{WordsFault}
use Rattle.ufs_words.specs.Values.{image_word}
use Rattle.ufs_command.specs.Commands.{asked}
use Rattle.ufs_command.specs.Seen.{Reading, Writing, Formatting}
use Rattle.ufs_command.specs.Endings.{IsAnswer}
use Rattle.ufs_command.specs.Ends.{Ends}
use Rattle.ufs_command.specs.Responses.{EndsNamed, Responds, command_for}

module _ {Z : Type 0} (words : Result (Vec (String Z) Z) WordsFault) (own : Vec (String Z) Z) (path : List ℕ) (is : words ≡ Ok own) (named : image_word (map string_bytes own.items) ≡ Some path) where
  abbrev good : Result (Vec (String Z) Z) WordsFault
  good = Ok own

  own_command : command_for good ≡ asked own.items
  own_command = ap (λ (o : Option (List ℕ)). if is_some o then asked own.items else None) named

  pub same_command : command_for words ≡ asked own.items
  same_command = ap command_for is ∙ own_command

  pub answered : (r : Reading) (d : Formatting) (told : List (List Entry)) (w : Writing) (status : ℕ) → IsAnswer (Ends (asked own.items) r d told) w status → IsAnswer (Responds words r d told) w status
  answered r d told w status a =
      subst (λ (x : Result (Vec (String Z) Z) WordsFault). IsAnswer (Responds x r d told) w status) (sym is)
      (subst (λ (o : Option (List ℕ)). IsAnswer (EndsNamed o (asked own.items) r d told) w status) (sym named) a)
