-- The one sound state: what holds of the views of all hands and of the word, between any two steps.
use Rattle.std.specs.Prelude.{List}
use Rattle.ufs_model.specs.History.{tree_after}
use Rattle.ufs_model.specs.declared.data.Entry.{Entry}
use Rattle.ufs_hand_laws.specs.LeasesTrue.{AreLeasesTrue}
use Rattle.ufs_hand_laws.specs.Parts.{View, World, Word, Start}
use Rattle.ufs_hand_laws.specs.OneHand.{IsHeld, DoPartsStay}
use Rattle.ufs_hand_laws.specs.TicketsOnce.{AreTicketsOnce}
use Rattle.ufs_hand_laws.specs.Legal.{IsOneHistory}
use Rattle.ufs_hand_laws.specs.BlocksApart.{AreBlocksApart}
use Rattle.ufs_hand_laws.specs.CommittedHeld.{IsCommittedHeld}
use Rattle.ufs_hand_laws.specs.CommittedNumbers.{AreCommittedNumbers}
use Rattle.ufs_hand_laws.specs.DiskBytes.{HasDiskBytes}
use Rattle.ufs_hand_laws.specs.Holds.{AreHoldsTrue}
use Rattle.ufs_hand_laws.specs.Explained.{Showing, AreStatesExplained}
use Rattle.ufs_hand_laws.specs.FaultsOnce.{AreFaultsOnce}
use Rattle.ufs_hand_laws.specs.ClockTrue.{IsClockTrue}
use Rattle.ufs_hand_laws.specs.Asked.{IsAskedTrue}
use Rattle.ufs_hand_laws.specs.Visible.{IsDiskVisible}

pub record IsSound (S : Showing) (k : Start) (word : Word) (views : List View) : Type 0 where
  pub history : List Entry
  pub world : World
  pub one_hand : IsHeld views world
  pub parts : DoPartsStay k world
  pub tickets_once : AreTicketsOnce k word history world
  pub legal : IsOneHistory k history world
  pub leases_true : AreLeasesTrue word.clock (tree_after k.tree history) world.client world.file world.names
  pub blocks_apart : AreBlocksApart k views
  pub committed_held : IsCommittedHeld k history world
  pub committed_numbers : AreCommittedNumbers k history world
  pub disk_bytes : IsDiskVisible k → HasDiskBytes world
  pub holds : AreHoldsTrue k history world
  pub explained : IsDiskVisible k → AreStatesExplained S k word history world.store
  pub faults_once : AreFaultsOnce views history world.store
  pub clock : IsClockTrue word views world
  pub asked : IsAskedTrue word world
