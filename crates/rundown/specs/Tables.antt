-- The tables and tickets of the code as the law speaks of them.
use Rattle.std.specs.Prelude.{ℕ, List, vec_items, Option}
use Rattle.law.specs.Handed.{Archive, Rundown as Tables, Ticket as Token}
use Rattle.rundown.specs.declared.tables.Rundown.{Rundown}
use Rattle.rundown.specs.declared.ticket.Ticket.{Ticket}

abbrev pub tables_of : {V : Type 0} → Rundown → List V → Tables V
tables_of r vs = record { tag = r.tag; root = r.root; places = vec_items r.places; values = vs }

abbrev pub token_of : Ticket → Token
token_of t = record { tag = t.tag; root = t.root }

-- an archive by the three functions of its interface
abbrev pub archive_of : {V : Type 0} → (ℕ → V) → (ℕ → Option ℕ) → (ℕ → V → V → V → V) → Archive V
archive_of leaf count result = record { leaf = leaf; count = count; result = result }
