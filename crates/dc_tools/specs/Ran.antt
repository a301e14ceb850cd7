-- What a word of each tool comes to.
use Rattle.std.specs.Prelude.{ℕ, List, Option, option_map}
use Rattle.dc_model.specs.Name.{address_of, address_name, reverse_name}
use Rattle.dc_model.specs.Message.{kind_ptr, kind_txt, kind_mx}
use Rattle.dc_lookup.specs.Words.{Job, asks, name_of, ip_job}

abbrev pub ip_word : List ℕ → Option Job
ip_word w = option_map (λ n. ip_job (address_name n) n) (name_of w)

abbrev pub name_word : List ℕ → Option Job
name_word w = option_map (λ addr. asks (reverse_name addr) kind_ptr) (address_of w)

abbrev pub txt_word : List ℕ → Option Job
txt_word w = option_map (λ n. asks n kind_txt) (name_of w)

abbrev pub mx_word : List ℕ → Option Job
mx_word w = option_map (λ n. asks n kind_mx) (name_of w)
