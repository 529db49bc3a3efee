-- The code by which clients are told apart.
use Rattle.std.specs.Prelude.{ℕ, Bool, List, Option, refl}
use Rattle.std.specs.Coded.{Coded, code_by, coded×, coded_bool, coded_list, coded_option, coded_ℕ}
use Rattle.std.specs.FinMap as map
use Rattle.ufs_fds.specs.Descriptors.{Descs}
use Rattle.ufs_hints.specs.Hints.{Pairs, hints_code}
use Rattle.ufs_model.specs.contracts.data.Actor as actor'
use Rattle.ufs_model.specs.contracts.data.Desc as desc'
use Rattle.ufs_model.specs.contracts.data.Op as op'
use Rattle.ufs_model.specs.declared.data.Actor.{Actor}
use Rattle.ufs_model.specs.declared.data.Op.{Op}
use Rattle.ufs_msg.specs.Requests.{Asked, asked_code}
use Rattle.ufs_caller.specs.Callers.{Caller, Errand}
use Rattle.ufs_caller.specs.contracts.told.Told as told'
use Rattle.ufs_caller.specs.declared.told.Told.{Told}

abbrev pub errand_code : Coded Errand
errand_code = code_by (Op × (Actor × (List Actor × (Option Asked × Bool))))
    (coded× op'.the_row.coded (coded× actor'.the_row.coded (coded× (coded_list actor'.the_row.coded) (coded× (coded_option asked_code) coded_bool))))
    (λ e. (e.request, (e.to, (e.via, (e.kept, e.is_again))))) (λ p. record { request = p.0; to = p.1.0; via = p.1.1.0; kept = p.1.1.1.0; is_again = p.1.1.1.1 }) (λ _. refl)

abbrev pub caller_code : Coded Caller
caller_code = code_by (ℕ × (List Told × (Descs × (List Op × (Option Errand × (Pairs × ℕ))))))
    (coded× coded_ℕ (coded× (coded_list told'.the_row.coded) (coded× (map.code coded_ℕ desc'.the_row.coded) (coded× (coded_list op'.the_row.coded) (coded× (coded_option errand_code) (coded× hints_code coded_ℕ))))))
    (λ c. (c.number, (c.told, (c.fds, (c.left, (c.errand, (c.hints, c.seen))))))) (λ p. record { number = p.0; told = p.1.0; fds = p.1.1.0; left = p.1.1.1.0; errand = p.1.1.1.1.0; hints = p.1.1.1.1.1.0; seen = p.1.1.1.1.1.1 }) (λ _. refl)
