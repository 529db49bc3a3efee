-- A file keeps the blocks that it has on the disk, through requests and commits: until the names empty it.
use Rattle.std.specs.Prelude.{ℕ, ◌≡◌, List, Option, Some}
use Rattle.ufs_bitmap.specs.Blocks.{BlockSet}
use Rattle.ufs_file_commits.specs.Serving.{IsApplied}
use Rattle.ufs_file_commits.specs.State.{DurableState, IsNoted, file_committed}
use Rattle.ufs_file.specs.Content.{IsContentOf}
use Rattle.ufs_model.specs.declared.data.Actor.{Actor}
use Rattle.ufs_model.specs.declared.data.Ask.{Ask}
use Rattle.ufs_model.specs.declared.data.Desc.{Desc}
use Rattle.ufs_model.specs.declared.data.Entry.{Entry}
use Rattle.ufs_names_commit.specs.Laws.{KeepsItsBlocks}

abbrev pub BlocksStayByRequests : Type 0
BlocksStayByRequests = (f g : DurableState) (before after : BlockSet) (ask : Ask) (server : Actor) (ticket : ℕ) (entry : Entry) (desc : Option Desc) (d : Desc) (bytes : List ℕ) → ask.desc ≡ Some d → IsContentOf f.file.content bytes
    → IsApplied f g before after ask server ticket entry desc → KeepsItsBlocks f → KeepsItsBlocks g

abbrev pub BlocksStayByCommits : Type 0
BlocksStayByCommits = (f : DurableState) → IsNoted f → KeepsItsBlocks (file_committed f)
