-- The words of the command `serve`.
use Rattle.std.specs.Prelude.{◌≤◌, ℕ, Bool, List, [], ◌∷◌, length, take, drop, nat_le, if◌then◌else◌, Option, None, Some, option_map, codes}
use Rattle.std.specs.Option.{option_or}
use Rattle.std.specs.Str.{bytes_eq}
use Rattle.program_ends.specs.Numbers.{count_in}
use Rattle.serve_command.specs.declared.words.Given.{Given}
use Rattle.serve_command.specs.declared.words.Given.TheVariants.{Port, Workers, Connections}
use Rattle.serve_command.specs.declared.words.Serving.{Serving}

-- what each option gives by its value
abbrev pub port_in : List ℕ → Option Given
port_in value = option_map (λ n. Port n) (count_in 65535 value)

abbrev pub workers_in : List ℕ → Option Given
workers_in value = option_map (λ n. Workers n) (count_in 16 value)

abbrev pub connections_in : List ℕ → Option Given
connections_in value = option_map (λ n. Connections n) (count_in 1000000 value)

-- what a word gives that is an option's name
abbrev pub option_in_two_words : List ℕ → List ℕ → Option Given
option_in_two_words name value =
    if bytes_eq name (codes "--port") then port_in value
    else if bytes_eq name (codes "--workers") then workers_in value
    else if bytes_eq name (codes "--connections") then connections_in value
    else None

-- the word begins so
abbrev pub begins : List ℕ → List ℕ → Bool
begins front word = bytes_eq (take (length front) word) front

-- what an option gives that is one word: `--port=N`, `--workers=W` or `--connections=M`
abbrev pub option_in_one_word : List ℕ → Option Given
option_in_one_word word =
    if begins (codes "--port=") word then port_in (drop 7 word)
    else if begins (codes "--workers=") word then workers_in (drop 10 word)
    else if begins (codes "--connections=") word then connections_in (drop 14 word)
    else None

-- what the option gives whose name is the first word, and whose value the next
abbrev pub parted_by : List ℕ → List (List ℕ) → Option Given
parted_by name [] = None
parted_by name (value ∷ words) = option_in_two_words name value

-- what the option gives that stands first, in one word or in two, and how many words it is
abbrev pub first_given : List (List ℕ) → Option (Given × ℕ)
first_given [] = None
first_given (word ∷ words) = option_or (option_map (λ given. (given, 1)) (option_in_one_word word)) (option_map (λ given. (given, 2)) (parted_by word words))

abbrev pub port_of : Given → Option ℕ
port_of (Port n) = Some n
port_of _ = None

abbrev pub workers_of : Given → Option ℕ
workers_of (Workers n) = Some n
workers_of _ = None

abbrev pub connections_of : Given → Option ℕ
connections_of (Connections n) = Some n
connections_of _ = None

-- it is in its range
abbrev pub IsGiven : Given → Type 0
IsGiven (Port n) = (1 ≤ n) × (n ≤ 65535)
IsGiven (Workers n) = (1 ≤ n) × (n ≤ 16)
IsGiven (Connections n) = (1 ≤ n) × (n ≤ 1000000)

-- the first of three that is there
abbrev pub one_of : (Given → Option ℕ) → Given → Given → Given → Option ℕ
one_of read a b c = option_or (option_or (read a) (read b)) (read c)

abbrev pub serving_with : Option ℕ → Option ℕ → Option ℕ → Option Serving
serving_with (Some port) (Some workers) (Some connections) = Some (record { port = port; workers = workers; connections = connections })
serving_with _ _ _ = None

-- All three are given, in any order. So each is given once.
abbrev pub serving_given : Given → Given → Given → Option Serving
serving_given a b c = serving_with (one_of port_of a b c) (one_of workers_of a b c) (one_of connections_of a b c)

-- the third option is the last
abbrev pub third_given : Given → Given → Option (Given × ℕ) → List (List ℕ) → Option Serving
third_given a b None words = None
third_given a b (Some c) words = if nat_le (length words) c.1 then serving_given a b c.0 else None

abbrev pub second_given : Given → Option (Given × ℕ) → List (List ℕ) → Option Serving
second_given a None words = None
second_given a (Some b) words = third_given a b.0 (first_given (drop b.1 words)) (drop b.1 words)

abbrev pub three_given : Option (Given × ℕ) → List (List ℕ) → Option Serving
three_given None words = None
three_given (Some a) words = second_given a.0 (first_given (drop a.1 words)) (drop a.1 words)

-- exactly three options
abbrev pub options_given : List (List ℕ) → Option Serving
options_given words = three_given (first_given words) words

-- `serve`, and `--port N`, `--workers W` and `--connections M` in any order, each once
unfoldable pub parse_serve_args : List (List ℕ) → Option Serving
parse_serve_args [] = None
parse_serve_args (command ∷ words) = if bytes_eq command (codes "serve") then options_given words else None

-- its numbers are in their ranges
pub record IsServing (s : Serving) : Type 0 where
  pub port : 1 ≤ s.port
  pub workers : 1 ≤ s.workers
  pub few : s.workers ≤ 16
  pub connections : 1 ≤ s.connections
  pub bounded : s.connections ≤ 1000000
