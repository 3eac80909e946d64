-- Which orders of its pieces a table gives, and the groups, places and sizes that follow.
pub mod Beginning
pub mod Greatest
pub mod GroupPlaces
pub mod Grouping
pub mod LayoutGroups
pub mod Products
pub mod Runs
pub mod ShapeParts
pub mod SideBySide
pub mod Sizing
