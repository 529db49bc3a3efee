-- The workload of `bench`: what eight clients ask, as it is made of words of 32 bits.
use Rattle.std.specs.Prelude.{ℕ, ◌+◌, ◌*◌, ◌/◌, ◌%◌, ◌==◌, List, [], ◌∷◌, ◌++◌, true, false, zero, suc, nat_lt, map, take, drop, replicate, if◌then◌else◌, codes}
use Rattle.ufs_bench.specs.Generator.{words_of}
use Rattle.ufs_layout.specs.declared.geometry.Geometry.{Geometry}
use Rattle.ufs_model.specs.declared.data.Op.{Op}
use Rattle.ufs_model.specs.declared.data.Op.TheVariants as op

-- the image that it is served on: 4096 blocks, 256 inodes, 512 sectors of journal
abbrev pub bench_geometry : Geometry
bench_geometry = record { blocks = 4096; inodes = 256; journal = 512 }

-- ---- paths

-- `/c0` to `/c7`
abbrev pub dir_path : ℕ → List ℕ
dir_path client = codes "/c" ++ (48 + client) ∷ []

-- `/c0/f0` to `/c7/f3`
abbrev pub file_path : ℕ → ℕ → List ℕ
file_path client file = dir_path client ++ codes "/f" ++ (48 + file) ∷ []

-- ---- a word's request

-- one of the client's four files
abbrev pub fd_of : ℕ → ℕ
fd_of x = 3 + x % 4

abbrev pub kind_of : ℕ → ℕ
kind_of x = x / 4 % 8

-- where it reads or writes, or how long the file becomes
abbrev pub place_of : ℕ → ℕ
place_of x = x / 32 % 65536

-- how many bytes it reads or writes
abbrev pub count_of : ℕ → ℕ
count_of x = 1 + x / 2097152 % 256

-- Three of eight write, three read, one syncs and one cuts or extends. What is written is the client's number.
abbrev pub request_of : ℕ → ℕ → Op
request_of client x =
    if nat_lt (kind_of x) 3 then op.Pwrite (fd_of x) (replicate (count_of x) client) (place_of x)
    else (if nat_lt (kind_of x) 6 then op.Pread (fd_of x) (count_of x) (place_of x)
    else (if kind_of x == 6 then op.Fsync (fd_of x) else op.Trunc (fd_of x) (place_of x)))

-- ---- a client's requests

-- `open PATH rw creat`
abbrev pub opening : ℕ → ℕ → Op
opening client file = op.OpenFile (file_path client file) true true true false false false

-- its directory and its four files
abbrev pub first_requests : ℕ → List Op
first_requests client = op.Mkdir (dir_path client) ∷ opening client 0 ∷ opening client 1 ∷ opening client 2 ∷ opening client 3 ∷ []

-- and then one request for each word
abbrev pub requests_of : ℕ → List ℕ → List Op
requests_of client words = first_requests client ++ map (request_of client) words

-- ---- all clients

abbrev pub client_count : ℕ
client_count = 8

-- how many words each client takes
abbrev pub words_each : ℕ
words_each = 1995

-- so many clients from one on, each of which takes the words behind those of the client before
unfoldable pub clients_from : ℕ → ℕ → List ℕ → List (List Op)
clients_from zero client words = []
clients_from (suc left) client words = requests_of client (take words_each words) ∷ clients_from left (client + 1) (drop words_each words)

-- the workload of these words
abbrev pub workload : List ℕ → List (List Op)
workload words = clients_from client_count 0 words

-- the workload of a seed
abbrev pub workload_of : ℕ → List (List Op)
workload_of seed = workload (words_of seed (client_count * words_each))
