-- What is read of a packet.
use Rattle.std.specs.Prelude.{◌≡◌, ℕ, List, Some}
use Rattle.dc_model.specs.Name.{Name, name_at}

-- This name stands at a place of a packet, and ends before another; so many pointers are followed.
pub record IsNameAt (p : List ℕ) (at : ℕ) (name : Name) (after : ℕ) : Type 0 where
  pub pointers : ℕ
  pub reads : name_at p at ≡ Some (record { name = name; after = after; pointers = pointers })
