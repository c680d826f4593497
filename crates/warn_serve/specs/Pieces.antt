-- The answer that gives a reply, up to the reply.
use Rattle.std.specs.Prelude.{ℕ, Bool, true, false, List, ◌++◌, codes, decimal}

-- what stands between the number of a reply's bytes and the reply
abbrev pub behind_length : Bool → List ℕ
behind_length true = codes "\r\nConnection: close\r\n\r\n"
behind_length false = codes "\r\n\r\n"

-- what stands before a reply of so many bytes
abbrev pub reply_head : ℕ → Bool → List ℕ
reply_head count last = codes "HTTP/1.1 200 OK\r\nContent-Type: application/json\r\nContent-Length: " ++ decimal count ++ behind_length last
