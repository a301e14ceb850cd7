-- The bytes of answers as they are written.
use Rattle.std.proofs.Common.{◌≡◌, ℕ, ◌+◌, List, [], ◌∷◌, ◌++◌, length, flat_map, sym, append_assoc, length-append}
use Rattle.dc_model.specs.Name.{Name, root, wire}
use Rattle.dc_model.specs.Message.{Question, u16, u32}
use Rattle.dc_simulation.specs.Tree.{Content, soa_bytes, answer_bytes}
use Rattle.dc_sim.specs.Asking.{head_bytes}
use Rattle.dc_sim.specs.Replies.{records_of}

-- What follows the server's name in the record of a zone.
abbrev behind_server : List ℕ
behind_server = wire root ++ flat_map u32 (1 ∷ 2 ∷ 3 ∷ 4 ∷ 5 ∷ [])

pub soa_written : (o : List ℕ) (zone server : Name) (w : List ℕ) → w ≡ wire server
    → ((o ++ (wire zone ++ (u16 6 ++ (u16 1 ++ (u32 60 ++ u16 (length w + 21)))))) ++ w) ++ behind_server ≡ o ++ soa_bytes zone server
soa_written o zone server w e =
    let size : length (wire server) + 21 ≡ length (wire server ++ behind_server) = sym (length-append (wire server) behind_server) in
    rw (e, size) (simp append_assoc)

-- A head and the records behind it.
pub answer_written : (id : ℕ) (q : Question) (c : Content) (flags answer authority additional : ℕ) → flags ≡ c.flags → answer ≡ length c.answer → authority ≡ length c.authority
    → additional ≡ length c.additional → head_bytes id q flags answer authority additional ++ records_of c ≡ answer_bytes id q c
unfolding answer_bytes
answer_written id q c flags answer authority additional f an ns ar = rw (f, an, ns, ar) (simp append_assoc)
