use Rattle.ufs_crash_laws.proofs.Facts.Places.{size_stands}
use Rattle.ufs_crash_laws.proofs.LawLemmas.{places_show, bytes_stand}
use Rattle.ufs_crash_laws.proofs.laws.a_place_shows_its_changes.Goals as goal

pub returns : goal.returns
returns c = record { places = places_show; bytes_stand = bytes_stand; sizes_stand = size_stands }
