pub mod Deeds
pub mod MarksGo
pub mod KnownGo
pub mod RunsGo
pub mod WorkletsGo
pub mod JudgedSo
pub mod ExletsGo
