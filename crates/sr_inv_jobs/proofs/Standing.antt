-- What a job stands on goes on to stand as the book and the held openers grow.
use Rattle.std.proofs.Common.{◌≡◌, ℕ, ◌+◌, Bool, true, false, cond, ◌||◌, List, [], ◌∷◌, ◌++◌, IfSome, if◌then◌else◌, Some, None, sym, refl, ap, ◌∙◌, subst}
use Rattle.sr_base.proofs.Sameness.{same_place-self}
use Rattle.sr_base.specs.Key.{KeyView}
use Rattle.sr_base.specs.Layout.{LayoutView}
use Rattle.sr_base.specs.Place.{same_place}
use Rattle.sr_base.specs.declared.place.Place.{Place}
use Rattle.sr_base.specs.declared.shape.Shape.{Shape}
use Rattle.sr_inv_facts.proofs.Entries.{Succeeds}
use Rattle.sr_inv_facts.proofs.Taking.{TakesHeld, same_held, told_held}
use Rattle.sr_inv_facts.specs.InJobs.{AimHolds, IsFirst, LiveAim, LiveHolds, PutHolds, StandsAt}
use Rattle.sr_machine.specs.declared.held_opener.HeldOpener.{HeldOpener}
use Rattle.sr_machine.specs.declared.put.Aim.{Aim}
use Rattle.sr_machine.specs.declared.put.Put.{Put}
use Rattle.sr_shadow.proofs.Places.{held_elsewhere, holder_split, once_without, holder_left, once_left}
use Rattle.sr_shadow.proofs.Splits.{Split, split, without_split, changed_split}
use Rattle.sr_shadow.specs.Book.{DistinctKeys, HeldOnce, entry_for, holder_of, without_key, with_changed}
use Rattle.sr_shadow.specs.Entry.{is_at, holds, left_other}
use Rattle.sr_shadow.specs.declared.entry.Entry.{Entry}
use Rattle.sr_machine.specs.declared.put.Aim.TheVariants as aim
use Rattle.sr_standing.proofs.Judging.{same_place-sym}
use Rattle.sr_standing.proofs.StandingTakes.{stands_follows}
use Rattle.sr_standing.specs.Standing.{AimStands, PutStands}

-- ---- a put

first_more : (h : HeldOpener) (held more : List HeldOpener) → IsFirst h held → IsFirst h (held ++ more)
first_more h held more (rest, q) = (rest ++ more, ap (λ xs. xs ++ more) q)

pub first_taken : (l : LayoutView) (pipe punts x : ℕ) (held after : List HeldOpener) → TakesHeld l pipe punts x held after → (h : HeldOpener) → IsFirst h held
    → IsFirst h after
first_taken l pipe punts x held after same_held h f = f
first_taken l pipe punts x held after (told_held w q r) h f =
    first_more h held (record { pipe = pipe; nth = punts + 1; key = w.key } ∷ []) f

module _ (shape : Shape) (es fs : List Entry) (held after : List HeldOpener) (f : Succeeds es fs) (first : (h : HeldOpener) → IsFirst h held → IsFirst h after) where
  aim_follows : (p : Put) (a : Aim) → AimHolds es held p a → AimHolds fs after p a
  aim_follows p aim.Pending (e, q, r) = let a = f.stays p.key e q in (a.0, a.1, a.2.place ∙ r)
  aim_follows p (aim.Held h) m = (first h m.0, m.1, f.unplaced p.key m.2)
  aim_follows p (aim.Move from planned) m = (stands_follows p.key from es fs f m.0, m.1, m.2)

  pub put_follows : (p : Put) → PutHolds shape es held p → PutHolds shape fs after p
  put_follows p m = record { own = m.own; free = f.holders p.place ∙ m.free; aim = aim_follows p p.aim m.aim }

  live_aim_follows : (p : Put) (a : Aim) → LiveAim held p a → LiveAim after p a
  live_aim_follows p aim.Pending m = tt
  live_aim_follows p (aim.Held h) m = (first h m.0, m.1)
  live_aim_follows p (aim.Move from planned) m = m

  pub live_follows : (p : Put) → LiveHolds es held p → LiveHolds fs after p
  live_follows p m = record { stands = stands_follows p.key p.place es fs f m.stands; aim = live_aim_follows p p.aim m.aim }

-- what a put stands on has what the book alone says of it
aim_stands : (es : List Entry) (held : List HeldOpener) (p : Put) (a : Aim) → AimHolds es held p a → AimStands es p.key a
aim_stands es held p aim.Pending (e, q, r) = subst (λ o. IfSome o (λ e. e.place ≡ None)) (sym q) r
aim_stands es held p (aim.Held h) m = m.2
aim_stands es held p (aim.Move from planned) m = m.0

pub put_stands : (shape : Shape) (es : List Entry) (held : List HeldOpener) (p : Put) → PutHolds shape es held p → PutStands es p
put_stands shape es held p m = record { free = m.free; aim = aim_stands es held p p.aim m.aim }

-- ---- who holds a place

or_true : (b : Bool) → (b || true) ≡ true
or_true true = refl
or_true false = refl

or_none : (b : Bool) → (b || false) ≡ b
or_none true = refl
or_none false = refl

-- whose entry stands at a place holds it
pub stands_held : (es : List Entry) (key : KeyView) (place : Place) → DistinctKeys es → HeldOnce es → StandsAt key place es
    → holder_of place es ≡ Some key
stands_held es key place d once (e, q, r) = at (split key es e d q)
  where
    at : Split key es e → holder_of place es ≡ Some key
    at s =
        let o : HeldOnce (s.front ++ e ∷ s.back) = subst HeldOnce s.is once in
        let here : is_at place e.place ≡ true = ap (is_at place) r ∙ same_place-self place in
        let held : holds place e ≡ true = ap (λ b. b || is_at place e.also) here in
        ap (holder_of place) s.is
        ∙ (holder_split place s.front s.back e o
        ∙ (ap (λ b. cond b (Some e.key) (holder_of place (s.front ++ s.back))) held ∙ ap Some s.own))

-- ---- a connection is retired

-- an entry that is taken out of the book leaves its place to nobody
pub record RetiredBook (es : List Entry) (key : KeyView) (place : Place) : Type 0 where
  pub once : HeldOnce (without_key key es)
  pub free : holder_of place (without_key key es) ≡ None
  pub holders : (q : Place) → holder_of q es ≡ (if same_place place q then Some key else holder_of q (without_key key es))

pub retired_book : (es : List Entry) (key : KeyView) (place : Place) (e : Entry) → DistinctKeys es → HeldOnce es
    → entry_for key es ≡ Some e → e.place ≡ Some place → e.also ≡ None → RetiredBook es key place
retired_book es key place e d once q r n = at (split key es e d q)
  where
    at : Split key es e → RetiredBook es key place
    at s = record {
      once = subst HeldOnce (sym gone) (once_without s.front s.back e o);
      free = ap (holder_of place) gone ∙ held_elsewhere place s.front s.back e o here;
      holders = λ other.
          ap (holder_of other) s.is ∙ (holder_split other s.front s.back e o ∙ (by other ∙ ap (λ xs. if same_place place other then Some key else holder_of other xs) (sym gone)));
    }
      where
        o : HeldOnce (s.front ++ e ∷ s.back)
        o = subst HeldOnce s.is once

        gone : without_key key es ≡ s.front ++ s.back
        gone = ap (without_key key) s.is ∙ without_split key s.front s.back e s.own s.before s.after

        here : holds place e ≡ true
        here = ap (λ b. b || is_at place e.also) (ap (is_at place) r ∙ same_place-self place)

        only : (other : Place) → holds other e ≡ same_place place other
        only other =
            ap (λ p. is_at other p || is_at other e.also) r ∙ (ap (λ p. same_place other place || is_at other p) n ∙ or_none (same_place other place)) ∙ same_place-sym other place

        by : (other : Place)
            → cond (holds other e) (Some e.key) (holder_of other (s.front ++ s.back))
            ≡ (if same_place place other then Some key else holder_of other (s.front ++ s.back))
        by other =
            ap (λ b. cond b (Some e.key) (holder_of other (s.front ++ s.back))) (only other)
            ∙ ap (λ k. if same_place place other then Some k else holder_of other (s.front ++ s.back)) s.own

-- ---- a place is left

-- the book once the key's entry has left the place that it still held
pub record LeftBook (es : List Entry) (key : KeyView) (place : Place) : Type 0 where
  pub once : HeldOnce (with_changed left_other key es)
  pub free : holder_of place (with_changed left_other key es) ≡ None
  pub holders : (q : Place)
      → holder_of q es ≡ (if same_place place q then Some key else holder_of q (with_changed left_other key es))

pub left_book : (es : List Entry) (key : KeyView) (place : Place) (e : Entry) → DistinctKeys es → HeldOnce es → entry_for key es ≡ Some e
    → e.also ≡ Some place → LeftBook es key place
left_book es key place e d once q r = at (split key es e d q)
  where
    at : Split key es e → LeftBook es key place
    at s = record {
      once = subst HeldOnce (sym is) (once_left s.front s.back e o);
      free = ap (holder_of place) is ∙ (holder_left s.front s.back e o place ∙ ap (λ b. cond b None (holder_of place (s.front ++ e ∷ s.back))) (ap (is_at place) r ∙ same_place-self place));
      holders = λ other. by other (same_place place other) refl;
    }
      where
        is : with_changed left_other key es ≡ s.front ++ left_other e ∷ s.back
        is = ap (with_changed left_other key) s.is ∙ changed_split left_other key s.front s.back e s.own s.before s.after

        o : HeldOnce (s.front ++ e ∷ s.back)
        o = subst HeldOnce s.is once

        other_at : (other : Place) → is_at other e.also ≡ same_place place other
        other_at other = ap (is_at other) r ∙ same_place-sym other place

        by : (other : Place) (b : Bool) → same_place place other ≡ b
            → holder_of other es ≡ (if b then Some key else holder_of other (with_changed left_other key es))
        by other true t =
            let held : holds other e ≡ true = ap (λ b. is_at other e.place || b) (other_at other ∙ t) ∙ or_true (is_at other e.place) in
            ap (holder_of other) s.is ∙ (holder_split other s.front s.back e o ∙ (ap (λ b. cond b (Some e.key) (holder_of other (s.front ++ s.back))) held ∙ ap Some s.own))
        by other false t =
            ap (holder_of other) s.is ∙ sym (ap (holder_of other) is ∙ (holder_left s.front s.back e o other ∙ ap (λ b. cond b None (holder_of other (s.front ++ e ∷ s.back))) (other_at other ∙ t)))
