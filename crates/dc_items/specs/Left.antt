-- What is left of a body.
use Rattle.std.specs.Prelude.{ℕ, ◌-◌, List, [], ◌∷◌, length}
use Rattle.dc_model.specs.Message.{Body}
use Rattle.dc_model.specs.Rules.{Rule}
use Rattle.dc_model.specs.Bodies.{items_from}

-- The items from a place on, up to the first place where no whole item stands. Each takes a byte at least, so as many turns as bytes are left do.
unfoldable pub items_left : Rule → ℕ → List ℕ → ℕ → List Body
items_left rule kind b i = items_from (length b - i) rule kind b i

-- The addresses of a body of type A, four bytes each. At most three bytes behind the last one are none.
unfoldable pub addresses_in : List ℕ → List (List ℕ)
addresses_in [] = []
addresses_in (a ∷ []) = []
addresses_in (a ∷ b ∷ []) = []
addresses_in (a ∷ b ∷ c ∷ []) = []
addresses_in (a ∷ b ∷ c ∷ d ∷ rest) = (a ∷ b ∷ c ∷ d ∷ []) ∷ addresses_in rest
