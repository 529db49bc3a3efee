use Rattle.ufs_crash_laws.proofs.LawLemmas.{names_go, bytes_go, exact}
use Rattle.ufs_crash_laws.proofs.laws.a_history_goes_by_its_changes.Goals as goal

pub returns : goal.returns
returns c = record { names = names_go; bytes = bytes_go c.a_request_keeps_the_tree.ensures; exact = exact c.a_new_name_takes_the_place_of_an_old_one.ensures.gone }
