-- The replies of the code as those of the tree.
use Rattle.std.specs.Prelude.{ℕ, Bool, if◌then◌else◌, List, [], ◌∷◌, ◌++◌}
use Rattle.dc_model.specs.Name.{wire}
use Rattle.dc_model.specs.Message.{kind_a, kind_ns, kind_cname}
use Rattle.dc_simulation.specs.Tree.{Content, record_bytes, response_flags, authority_flags, cut, answers, missing, all_bytes}
use Rattle.dc_sim.specs.declared.reply.Reply.{Reply}
use Rattle.dc_sim.specs.declared.reply.Reply.TheVariants as reply

-- The second byte pair of a server's responses.
abbrev pub flags_by : Bool → ℕ
flags_by authority = if authority then authority_flags else response_flags

-- What a reply has in it.
abbrev pub content_by : Reply → Content
content_by reply.Cut = cut
content_by (reply.Referral zone server addr) = record {
  flags = response_flags;
  answer = [];
  authority = record_bytes zone kind_ns 3600 (wire server) ∷ [];
  additional = record_bytes server kind_a 3600 addr ∷ [];
}
content_by (reply.Server authority name addr) = answers (flags_by authority) (record_bytes name kind_a 3600 addr)
content_by (reply.Host name addr) = answers authority_flags (record_bytes name kind_a 300 addr)
content_by (reply.Alias name target) = answers authority_flags (record_bytes name kind_cname 300 (wire target))
content_by (reply.Missing authority zone server) = missing (flags_by authority) zone server

-- All its records.
abbrev pub records_of : Content → List ℕ
records_of c = all_bytes c.answer ++ (all_bytes c.authority ++ all_bytes c.additional)
