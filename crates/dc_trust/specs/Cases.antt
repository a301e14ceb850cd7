-- Worked examples of what isn't believed, each by its events and what the core does with them.
use Rattle.std.specs.Prelude.{ℕ, zero, suc, List, [], ◌∷◌, ◌++◌, codes}
use Rattle.dc_model.specs.Event.{Event, Action, reply, udp, link_close, line}
use Rattle.dc_machine.specs.Examples.{bytes_of_digits, server, client, request_at, answer_at}

-- `www.example.com` is asked for, and the root server refers to the server of `com`.
abbrev pub referred_events : List Event
referred_events =
    request_at 1000000 (codes "00010100000100000000000003777777076578616d706c6503636f6d0000010001")
    ∷ answer_at 1000050 1 1 (codes "00008000000100000001000103777777076578616d706c6503636f6d000001000103636f6d00000200010002a3000008026e7303636f6d00026e7303636f6d00000100010002a3000004c6336402") ∷ []

-- The root server is asked,
abbrev pub asked_actions : List Action
asked_actions =
    line (codes "starting")
    ∷ line (codes "query 1 7f000001:1000:0001 1 www.example.com.")
    ∷ line (codes "tx 0 1 www.example.com. . c6336401")
    ∷ udp 1 1025 (server 1) (bytes_of_digits (codes "00000000000100000000000003777777076578616d706c6503636f6d0000010001")) ∷ []

-- and then the server of `com`.
abbrev pub referred_actions : List Action
referred_actions =
    asked_actions
    ++ (link_close 1
    ∷ line (codes "rr c6336401 172800 1 ns.com. c6336402")
    ∷ line (codes "rr c6336401 172800 ns com. ns.com.")
    ∷ line (codes "stats 1 69 1 0")
    ∷ line (codes "cached 1 ns.com.")
    ∷ line (codes "tx 0 1 www.example.com. com. c6336402")
    ∷ udp 2 1025 (server 2) (bytes_of_digits (codes "00000000000100000000000003777777076578616d706c6503636f6d0000010001")) ∷ [])

-- The server of `com` answers, and adds an address of `www.example.net`. Then that name is asked for.
abbrev pub foreign_events : List Event
foreign_events =
    referred_events
    ++ (answer_at 1000100 2 2 (codes "00008400000100010000000103777777076578616d706c6503636f6d0000010001c00c000100010000012c0004c000020103777777076578616d706c65036e657400000100010000012c0004c0000242")
    ∷ request_at 1010000 (codes "00020100000100000000000003777777076578616d706c65036e65740000010001") ∷ [])

-- Nothing is said or known of the address that was added: the root server is asked.
abbrev pub foreign_actions : List Action
foreign_actions =
    referred_actions
    ++ (link_close 2
    ∷ line (codes "rr c6336402 300 1 www.example.com. c0000201")
    ∷ line (codes "stats 1 112 1 0")
    ∷ reply client 4096 (bytes_of_digits (codes "00018180000100010000000003777777076578616d706c6503636f6d0000010001c00c000100010000012c0004c0000201"))
    ∷ line (codes "sent 1 49")
    ∷ line (codes "query 2 7f000001:1000:0002 1 www.example.net.")
    ∷ line (codes "tx 0 1 www.example.net. . c6336401")
    ∷ udp 3 1025 (server 1) (bytes_of_digits (codes "00000000000100000000000003777777076578616d706c65036e65740000010001")) ∷ [])

-- The server of `com` refers to a server of another zone, and adds its address.
abbrev pub glue_events : List Event
glue_events =
    referred_events
    ++ (answer_at 1000100 2 2 (codes "00008000000100000001000103777777076578616d706c6503636f6d0000010001076578616d706c6503636f6d00000200010002a3000010026e73076578616d706c65036e657400026e73076578616d706c65036e657400000100010002a3000004c0000242") ∷ [])

-- The address isn't used: the root server is asked for it.
abbrev pub glue_actions : List Action
glue_actions =
    referred_actions
    ++ (link_close 2
    ∷ line (codes "rr c6336402 172800 ns example.com. ns.example.net.")
    ∷ line (codes "stats 1 120 1 0")
    ∷ line (codes "tx 1 1 ns.example.net. . c6336401")
    ∷ udp 3 1025 (server 1) (bytes_of_digits (codes "000000000001000000000000026e73076578616d706c65036e65740000010001")) ∷ [])

-- A packet with the right id and question comes on the first link, from the server that was asked on it, when the second is open.
abbrev pub late_events : List Event
late_events =
    referred_events
    ++ (answer_at 1000100 1 1 (codes "00008400000100010000000003777777076578616d706c6503636f6d0000010001c00c000100010000012c0004c0000242") ∷ [])

-- While the root server is asked, answers come from another address, from another port, with another id, on another link, and with
-- another question.
abbrev pub forged_events : List Event
forged_events =
    request_at 1000000 (codes "00010100000100000000000003777777076578616d706c6503636f6d0000010001")
    ∷ answer_at 1000010 1 9 (codes "00008400000100010000000003777777076578616d706c6503636f6d0000010001c00c000100010000012c0004c0000242")
    ∷ record (answer_at 1000020 1 1 (codes "00008400000100010000000003777777076578616d706c6503636f6d0000010001c00c000100010000012c0004c0000242")) { port = 54 }
    ∷ answer_at 1000030 1 1 (codes "00018400000100010000000003777777076578616d706c6503636f6d0000010001c00c000100010000012c0004c0000242")
    ∷ answer_at 1000040 2 1 (codes "00008400000100010000000003777777076578616d706c6503636f6d0000010001c00c000100010000012c0004c0000242")
    ∷ answer_at 1000050 1 1 (codes "00008400000100010000000003777777076578616d706c65036e65740000010001c00c000100010000012c0004c0000242") ∷ []

-- The root server refers `a` to `n.b`, and says that `n.b` is an alias of itself.
abbrev pub turning_events : List Event
turning_events =
    request_at 1000000 (codes "0001010000010000000000000377777701610000010001")
    ∷ answer_at 1000050 1 1 (codes "0000800000010000000100010377777701610000010001c01000020001000000640005016e016200016e01620000050001000000640005016e016200") ∷ []

-- A line so many times.
abbrev pub lines_of : ℕ → List ℕ → List Action
lines_of zero text = []
lines_of (suc n) text = line text ∷ lines_of n text

-- The alias is looked up until the turns are used up.
abbrev pub turning_actions : List Action
turning_actions =
    line (codes "starting")
    ∷ line (codes "query 1 7f000001:1000:0001 1 www.a.")
    ∷ line (codes "tx 0 1 www.a. . c6336401")
    ∷ udp 1 1025 (server 1) (bytes_of_digits (codes "0000000000010000000000000377777701610000010001"))
    ∷ link_close 1
    ∷ line (codes "rr c6336401 100 ns a. n.b.")
    ∷ line (codes "rr c6336401 100 cname n.b. n.b.")
    ∷ line (codes "stats 1 62 1 0")
    ∷ (lines_of 97 (codes "cached cname n.b. n.b.") ++ (line (codes "drop 1 turns") ∷ []))
