-- A planting in a history: the book that is kept of it is right, and there is only one.
use Rattle.std.proofs.Common.{◌≡◌, ℕ, List, [], ◌∷◌, Ok, Err, Result, sym, refl, ap, ◌∙◌, subst}
use Rattle.grammar.specs.Model.{Grammar}
use Rattle.sheet.specs.Meaning.{Sound}
use Rattle.tour.specs.Trees.{Forest, Agrees}
use Rattle.tour.proofs.Blocks.{means_one}
use Rattle.blocks.specs.Taken.{TakenLaw}
use Rattle.law.specs.Handed.{Archive, Rundown, Ticket, Piece}
use Rattle.law.specs.Book.{Book, planted, TreeAtPlaces}
use Rattle.law.specs.Histories.{Happens, Enters}
use Rattle.law.specs.Histories.Event.{plant}
use Rattle.law.specs.declared.decline.Decline.{Decline}
use Rattle.law.proofs.Right.{Right}
use Rattle.law.proofs.PlantingBlocks.{same_symbol}
use Rattle.law.proofs.Planting.{plant_right}

-- a block has one tree at given places
pub tree_at_places_one : (g : Grammar) (b : List Piece) (ps : List ℕ) (f h : Forest) → TreeAtPlaces g b ps f → TreeAtPlaces g b ps h → f ≡ h
tree_at_places_one g b ps f h t u =
    let s = same_symbol g f h t.symbol u.symbol t.agrees u.agrees (t.block ∙ sym u.block) in
    means_one g (u.symbol ∷ []) b ps f h
    (record { agrees = subst (λ x. Agrees g f (x ∷ [])) s t.agrees; block = t.block; at = t.in_places })
    (record { agrees = u.agrees; block = u.block; at = u.in_places })

module _ {V : Type 0} (g : Grammar) (m : Archive V) (so : Sound g) (tl : TakenLaw) where
  -- each planting, accepted or declined, has a book that is right
  pub plant_enters : (r r' : Rundown V) (k : Book) (b : List Piece) (cells : ℕ) (ps : List ℕ) (answer : Result Ticket Decline) → Right g m r k → Happens g m r (plant b cells ps answer) r' → (k' : Book) × Enters {V = V} g k (plant b cells ps answer) k' × Right g m r' k'
  plant_enters r r' k b cells ps (Ok t) ri (p, e) =
      let w = plant_right g m so tl r r' k b cells t ri p in
      (planted g k t w.0, (w.0, subst (λ z. TreeAtPlaces g b z w.0) (sym e) w.1, refl), w.2)
  plant_enters r r' k b cells ps (Err d) ri (p, e) = (k, refl, subst (λ z. Right g m z k) (sym p.1) ri)

  -- every book that is kept of it is right
  pub plant_entered : (r r' : Rundown V) (k k' : Book) (b : List Piece) (cells : ℕ) (ps : List ℕ) (answer : Result Ticket Decline) → Right g m r k → Happens g m r (plant b cells ps answer) r' → Enters {V = V} g k (plant b cells ps answer) k' → Right g m r' k'
  plant_entered r r' k k' b cells ps (Ok t) ri (p, e) (f, u, n) =
      let w = plant_right g m so tl r r' k b cells t ri p in
      let s = tree_at_places_one g b ps f w.0 u (subst (λ z. TreeAtPlaces g b z w.0) (sym e) w.1) in
      subst (Right g m r') (sym (n ∙ ap (planted g k t) s)) w.2
  plant_entered r r' k k' b cells ps (Err d) ri (p, e) n = subst (λ z. Right g m z k') (sym p.1) (subst (Right g m r) (sym n) ri)
