pub mod Replays
pub mod Trying
pub mod Reporting
pub mod RowLaws
pub mod CallLaws
pub mod TurnLaws
pub mod Turning
pub mod Worked
