use Rattle.ufs_hand_laws.proofs.Acknowledged.{files_are_acknowledged, names_are_acknowledged, births_are_acknowledged, files_stay, names_stay, births_stay, births_were_covered, numbers_stay}
use Rattle.ufs_hand_laws.proofs.laws.acknowledged_numbers.Goals as goal

pub returns-clause-files : goal.returns-clause-files
returns-clause-files c = files_are_acknowledged

pub returns-clause-names : goal.returns-clause-names
returns-clause-names c = names_are_acknowledged

pub returns-clause-births : goal.returns-clause-births
returns-clause-births c = births_are_acknowledged

pub returns-clause-files_stay : goal.returns-clause-files_stay
returns-clause-files_stay c = files_stay

pub returns-clause-names_stay : goal.returns-clause-names_stay
returns-clause-names_stay c = names_stay

pub returns-clause-births_stay : goal.returns-clause-births_stay
returns-clause-births_stay c = births_stay

pub returns-clause-births_before : goal.returns-clause-births_before
returns-clause-births_before c = births_were_covered

pub returns-clause-numbers_stay : goal.returns-clause-numbers_stay
returns-clause-numbers_stay c = numbers_stay
