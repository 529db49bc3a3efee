-- What it means that a script was served.
use Rattle.std.specs.Prelude.{ℕ, ◌≡◌, List, length}
use Rattle.ufs_model.specs.PosixTree.{root_alone}
use Rattle.ufs_model.specs.History.{IsLegal, IsInOrder, IsComplete, AreUnexcused}
use Rattle.ufs_model.specs.declared.data.Entry.{Entry}
use Rattle.ufs_script.specs.Output.{output_of}
use Rattle.ufs_script.specs.declared.script.Script.{Script}

-- One tree, which begins with the root alone, gives the history's replies; the history has each request of the script
-- once, in its client's order; and the text is its reply lines, client by client.
pub record TellsReplies (script : Script) (text : List ℕ) (history : List Entry) : Type 0 where
  pub legal : IsLegal root_alone history
  pub ordered : IsInOrder script.clients history
  pub complete : IsComplete script.clients history
  -- no reply is an excuse: want of memory ends the program
  pub unexcused : AreUnexcused history
  pub printed : text ≡ output_of (length script.clients) history
