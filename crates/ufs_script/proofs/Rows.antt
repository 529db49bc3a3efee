-- A few scripts and lines, worked by computation.
use Rattle.std.proofs.Common.{◌≡◌, [], ◌∷◌, Some, Ok, Err, true, false, refl}
use Rattle.std.specs.Prelude.{codes, negsuc, pos}
use Rattle.std.specs.Fmt.{digits}
use Rattle.hex.specs.Hex.{encode_with}
use Rattle.hex.proofs.OnLiterals.{hex_on_literals}
use Rattle.ufs_model.specs.declared.data.Op.TheVariants as op
use Rattle.ufs_model.specs.declared.data.Whence.TheVariants as whence
use Rattle.ufs_model.specs.declared.data.Reply.TheVariants as reply
use Rattle.ufs_model.specs.declared.data.Excuse.TheVariants as excuse
use Rattle.ufs_model.specs.declared.data.Actor.TheVariants as actor
use Rattle.ufs_script.specs.declared.fault.ScriptFault.TheVariants as fault
use Rattle.ufs_script.specs.declared.lists.ScheduleWord.TheVariants as turn
use Rattle.ufs_script.specs.Script.{placed_of, script_of, plain_script}
use Rattle.ufs_script.specs.Output.{line_text, trace_text}

no_client : script_of (codes "end") ≡ Ok (plain_script [])
no_client = refl

two_clients : script_of (codes "# a\nclient 00\n\tmkdir  /d \r\nopen \"\" rw excl creat\n\nclient 1\nseek 3 end -18\nsync\nend\n")
    ≡ Ok (plain_script ((op.Mkdir (codes "/d") ∷ op.OpenFile [] true true true true false false ∷ []) ∷ (op.Seek 3 whence.End (negsuc 17) ∷ op.Sync ∷ []) ∷ []))
two_clients = refl

no_minus : script_of (codes "client 0\nseek 3 set -0\nend") ≡ Ok (plain_script ((op.Seek 3 whence.Set (pos 0) ∷ []) ∷ []))
no_minus = refl

-- digits of either case are read, and lower case is printed
data_of_three_forms : script_of (codes "client 0\nwrite 3 6162Ff\nwrite 003 -\nwrite 3 3*0A\nend\n")
    ≡ Ok (plain_script ((op.Write 3 (97 ∷ 98 ∷ 255 ∷ []) ∷ op.Write 3 [] ∷ op.Write 3 (10 ∷ 10 ∷ 10 ∷ []) ∷ []) ∷ []))
unfolding hex_on_literals
data_of_three_forms = refl

an_empty_text : script_of [] ≡ Err (fault.NoEnd 0)
an_empty_text = refl

no_end : script_of (codes "client 0\nsync") ≡ Err (fault.NoEnd 2)
no_end = refl

an_unknown_word : script_of (codes "client 0\nfrob\nend\n") ≡ Err (fault.BadWord 2)
an_unknown_word = refl

-- skipped lines are counted; the words after the first aren't looked at
before_any_client : script_of (codes "# a\n\nread x\nend\n") ≡ Err (fault.NoClient 3)
before_any_client = refl

a_flag_twice : script_of (codes "client 0\nopen /f r creat creat\nend\n") ≡ Err (fault.BadWord 2)
a_flag_twice = refl

from_left_to_right : script_of (codes "client 0\nread x\nend\n") ≡ Err (fault.BadNumber 2)
from_left_to_right = refl

one_word_too_many : script_of (codes "client 0\nclose 3 4\nend\n") ≡ Err (fault.BadWord 2)
one_word_too_many = refl

another_client : script_of (codes "client 1\nend\n") ≡ Err (fault.BadNumber 1)
another_client = refl

behind_the_end : script_of (codes "end\n# a\n\nfrob\n") ≡ Err (fault.AfterEnd 4)
behind_the_end = refl

-- ---- schedules

-- two clients and two workers; a file goes to worker 2 and then to worker 1
a_schedule : script_of (codes "client 0\nclient 1\nschedule 2\nc0 p c0 c0 p c0 m2:/f w2 c1 p c1\n\tc01 m1:/f w2 p w1 w2 c1 p c1 w1 c1\nend\n")
    ≡ Ok (record {
      clients = [] ∷ [] ∷ [];
      workers = 2;
      words =
          turn.Client 0 ∷ turn.Primary ∷ turn.Client 0 ∷ turn.Client 0 ∷ turn.Primary ∷ turn.Client 0 ∷ turn.Move (codes "/f") 2 ∷ turn.Worker 2 ∷ turn.Client 1 ∷ turn.Primary ∷ turn.Client 1
          ∷ turn.Client 1 ∷ turn.Move (codes "/f") 1 ∷ turn.Worker 2 ∷ turn.Primary ∷ turn.Worker 1 ∷ turn.Worker 2 ∷ turn.Client 1 ∷ turn.Primary ∷ turn.Client 1 ∷ turn.Worker 1 ∷ turn.Client 1 ∷ [];
    })
a_schedule = refl

orders_and_ticks : script_of (codes "schedule 8\nm8:/a:b m0:\"\" m1: t65535 l\nend")
    ≡ Ok (record { clients = []; workers = 8; words = turn.Move (codes "/a:b") 8 ∷ turn.Move [] 0 ∷ turn.Move [] 1 ∷ turn.Ticks 65535 ∷ turn.Plan ∷ [] })
orders_and_ticks = refl

an_empty_schedule : script_of (codes "schedule 01\nend") ≡ Ok (plain_script [])
an_empty_schedule = refl

its_places : placed_of (codes "\nschedule 1\np\nl p l\nl\nend")
    ≡ Ok (record { script = record { clients = []; workers = 1; words = turn.Primary ∷ turn.Plan ∷ turn.Primary ∷ turn.Plan ∷ turn.Plan ∷ [] }; schedule = Some 2; plan = Some 4 })
its_places = refl

too_many_workers : script_of (codes "schedule 9\nend\n") ≡ Err (fault.BadNumber 1)
too_many_workers = refl

no_workers : script_of (codes "client 0\nschedule\nend\n") ≡ Err (fault.BadWord 2)
no_workers = refl

no_such_client : script_of (codes "client 0\nschedule 1\np c1 x\nend\n") ≡ Err (fault.BadNumber 3)
no_such_client = refl

-- behind `schedule` no line is a client's
a_client_behind_it : script_of (codes "client 0\nschedule 1\nclient 1\nend\n") ≡ Err (fault.BadNumber 3)
a_client_behind_it = refl

no_such_worker : script_of (codes "schedule 2\nw3\nend\n") ≡ Err (fault.BadNumber 2)
no_such_worker = refl

no_colon : script_of (codes "schedule 2\nm9\nend\n") ≡ Err (fault.BadWord 2)
no_colon = refl

no_number_before_the_colon : script_of (codes "schedule 2\nm:/f\nend\n") ≡ Err (fault.BadNumber 2)
no_number_before_the_colon = refl

more_than_a_letter : script_of (codes "schedule 2\np p1\nend\n") ≡ Err (fault.BadWord 2)
more_than_a_letter = refl

-- the last line has no line end before which a byte 0x0d could stand
a_return_at_the_end : script_of (codes "client 0\r\nend\r") ≡ Err (fault.BadWord 2)
a_return_at_the_end = refl

a_line : line_text 0 3 (reply.Got (97 ∷ 98 ∷ [])) ≡ codes "0.3 data 6162\n"
unfolding digits encode_with
a_line = refl

names : line_text 1 10 (reply.Names (codes "a" ∷ codes "bc" ∷ [])) ≡ codes "1.10 names 2 a bc\n"
unfolding digits
names = refl

an_entry : trace_text (record { ticket = 7; client = 1; seq = 2; by = actor.Worker 3; op = op.Sync; reply = reply.Done }) [] ≡ codes "# 7 1.2 by w3\n"
unfolding digits
an_entry = refl

an_excused_entry : trace_text (record { ticket = 10; client = 0; seq = 0; by = actor.Primary; op = op.Sync; reply = reply.Excused (excuse.Blocks 2 1) }) (actor.Worker 1 ∷ actor.Client 2 ∷ [])
    ≡ codes "# 10 0.0 by p via w1,c2 excuse blocks 2 1\n"
unfolding digits
an_excused_entry = refl
